-- Signatures of looks and of writes.
use Rattle.std.proofs.Common.{◌≡◌, ◌⊎◌, inl, inr, ◌↔◌, ℕ, ◌<◌, Bool, true, false, ◌||◌, List, [], ◌∷◌, nat_eq, IsTrue, sym, subst, ◌∙◌, arith}
use Rattle.std.proofs.lemmas.Bool.Decides.{nat_tests}
use Rattle.std.specs.List.{list_any}
use Rattle.std.specs.FinMap.{keys}
use Rattle.schema.specs.declared.look.Look.{Look}
use Rattle.schema.specs.Rows.{Key, Writes}
use Rattle.sig_lanes.specs.Signature.{bit_of, looks_set_bit, writes_set_bit, shares_bit}
use Rattle.sig_lanes.specs.Bits.{has_bit, Meet}

either : (a b : Bool) → (a || b) ≡ true → (a ≡ true) ⊎ (b ≡ true)
either true b e = inl e
either false b e = inr e

same : (m n : ℕ) → nat_eq m n ≡ true → m ≡ n
same m n e = grind (arith, nat_tests)

-- each bit that keys set is one of the signature's
pub few_set : ((k : Key) → bit_of k < 1024) → (ks : List Key) (bit : ℕ) → list_any (λ k. nat_eq (bit_of k) bit) ks ≡ true → bit < 1024
few_set few [] bit e = absurd cc
few_set few (k ∷ ks) bit e = elim (either (nat_eq (bit_of k) bit) (list_any (λ q. nat_eq (bit_of q) bit) ks) e) [
  | inl here ↦ subst (λ (b : ℕ). b < 1024) (same (bit_of k) bit here) (few k)
  | inr later ↦ few_set few ks bit later
]

pub meet_by_bits : (looks : List Look) (writes : Writes) (reads written : List ℕ) → ((k : Key) → bit_of k < 1024)
    → (IsTrue (shares_bit looks writes) ↔ ((bit : ℕ) × IsTrue (looks_set_bit looks bit) × IsTrue (writes_set_bit writes bit)))
    → ((bit : ℕ) → bit < 1024 → has_bit reads bit ≡ looks_set_bit looks bit) → ((bit : ℕ) → bit < 1024 → has_bit written bit ≡ writes_set_bit writes bit)
    → Meet reads written ↔ IsTrue (shares_bit looks writes)
meet_by_bits looks writes reads written few shared of_reads of_writes = (
  λ m. shared.1 (m.0, sym (of_reads m.0 m.1) ∙ m.2, sym (of_writes m.0 m.1) ∙ m.3),
  λ s.
      let x = shared.0 s in
      let lt = few_set few (keys writes) x.0 x.2 in
      (x.0, lt, of_reads x.0 lt ∙ x.1, of_writes x.0 lt ∙ x.2),
)
