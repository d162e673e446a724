-- Of what two replicas have delivered_items, one begins with the other.
use Rattle.std.proofs.Common.{◌⊎◌, inl, inr, ℕ, zero, suc, [], ◌∷◌, take, refl, ap}
use Rattle.log_model.specs.Log.{Log}
use Rattle.dsm_model.specs.World.{Replica}
use Rattle.dsm_model.specs.Worlds.{IsPrefix, delivered_items}

beginning : (m n : ℕ) (log : Log) → IsPrefix (take m log) (take n log) ⊎ IsPrefix (take n log) (take m log)
beginning zero n log = inl (take n log, refl)
beginning (suc m) zero log = inr (take (suc m) log, refl)
beginning (suc m) (suc n) [] = inl ([], refl)
beginning (suc m) (suc n) (call ∷ log) = elim (beginning m n log) [
  | inl b ↦ inl (b.0, ap (λ (l : Log). call ∷ l) b.1)
  | inr b ↦ inr (b.0, ap (λ (l : Log). call ∷ l) b.1)
]

pub agree : (log : Log) (a b : Replica) → IsPrefix (delivered_items log a) (delivered_items log b) ⊎ IsPrefix (delivered_items log b) (delivered_items log a)
agree log a b = beginning a.position b.position log
