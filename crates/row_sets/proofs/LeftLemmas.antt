-- What is left of a write set while its keys are taken one by one.
use Rattle.std.proofs.Common.{◌≡◌, ◌⊎◌, inl, inr, Bool, true, false, cond, List, [], ◌∷◌, ℕ, IsSome, is_some, refl, sym, ap, ◌∙◌, Option, Some}
use Rattle.std.specs.FinMap.{get, entries, find, get-entries}
use Rattle.schema.specs.Rows.{Key, key_cmp, Writes}
use Rattle.schema.proofs.RowsLemmas.{is_key, same_key, one_key}

abbrev pub Write : Type 0
Write = Key × Option (List ℕ)

-- the key is one of these writes'
abbrev pub IsLeft : List Write → Key → Type 0
IsLeft rest k = IsSome (find key_cmp k rest)

pub first_or_later : (x : Write) (rest : List Write) (k : Key) → IsLeft (x ∷ rest) k → (k ≡ x.0) ⊎ IsLeft rest k
first_or_later x rest k h =
    elim (is_key k x.0) as (λ b. is_key k x.0 ≡ b → IsSome (cond b (Some x.1) (find key_cmp k rest)) → (k ≡ x.0) ⊎ IsLeft rest k) [
      | true ↦ λ e h. inl (one_key k x.0 e)
      | false ↦ λ e h. inr h
    ] refl h

pub is_first : (x : Write) (rest : List Write) → IsLeft (x ∷ rest) x.0
is_first x rest = ap (λ (b : Bool). is_some (cond b (Some x.1) (find key_cmp x.0 rest))) (same_key x.0)

pub is_later : (x : Write) (rest : List Write) (k : Key) → IsLeft rest k → IsLeft (x ∷ rest) k
is_later x rest k h =
    elim (is_key k x.0) as (λ b. IsSome (cond b (Some x.1) (find key_cmp k rest))) [
      | true ↦ refl
      | false ↦ h
    ]

pub all_left : (writes : Writes) (rest : List Write) (k : Key) → rest ≡ entries writes → IsSome (get writes k) → IsLeft rest k
all_left writes rest k is h = ap (λ (l : List Write). is_some (find key_cmp k l)) is ∙ ap is_some (sym (get-entries writes k)) ∙ h

pub left_written : (writes : Writes) (rest : List Write) (k : Key) → rest ≡ entries writes → IsLeft rest k → IsSome (get writes k)
left_written writes rest k is h = ap is_some (get-entries writes k) ∙ ap (λ (l : List Write). is_some (find key_cmp k l)) (sym is) ∙ h

pub none_left : (rest : List Write) (k : Key) → rest ≡ [] → IsLeft rest k → ⊥
none_left rest k is h = let bad : false ≡ true = ap (λ (l : List Write). is_some (find key_cmp k l)) (sym is) ∙ h in cc
