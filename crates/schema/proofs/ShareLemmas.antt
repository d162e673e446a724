-- When writes and looks share a key.
use Rattle.std.proofs.Common.{◌≡◌, ℕ, List, [], ◌∷◌, refl, sym, ap, subst, ◌∙◌, Bool, true, false, cond}
use Rattle.std.specs.Prelude.{IsTrue, IsSome, Option, Some, None, is_some, ◌||◌, Any, map}
use Rattle.std.specs.List.{list_any}
use Rattle.std.specs.FinMap.{get, keys, entries, get-entries, find}
use Rattle.std.proofs.lemmas.List.Folds.{Any-from_list_any, list_any-from_Any}
use Rattle.schema.specs.declared.look.Look.{Look}
use Rattle.schema.specs.Rows.{Key, key_cmp, covers, any_covers, Writes}
use Rattle.schema.proofs.RowsLemmas.{is_key, one_key, same_key}

-- ---- several looks

one_of : (looks : List Look) (k : Key) → any_covers looks k ≡ list_any (λ (look : Look). covers look k) looks
one_of [] k = refl
one_of (look ∷ looks) k = ap (λ b. covers look k || b) (one_of looks k)

pub one_covers : (looks : List Look) (k : Key) → IsTrue (any_covers looks k) → Any (λ look. IsTrue (covers look k)) looks
one_covers looks k t = Any-from_list_any (λ (look : Look). covers look k) looks (sym (one_of looks k) ∙ t)

pub covers_by_one : (looks : List Look) (k : Key) → Any (λ look. IsTrue (covers look k)) looks → IsTrue (any_covers looks k)
covers_by_one looks k some = one_of looks k ∙ list_any-from_Any (λ (look : Look). covers look k) looks some

-- ---- written keys

or_true : (a b : Bool) → b ≡ true → (a || b) ≡ true
or_true true b t = refl
or_true false b t = t

-- a key that passes, and has an entry
abbrev Common : (Key → Bool) → List (Key × Option (List ℕ)) → Type 0
Common p es = (k : Key) × (p k ≡ true) × IsSome (find key_cmp k es)

further : (p : Key → Bool) (e : Key × Option (List ℕ)) (es : List (Key × Option (List ℕ))) → Common p es → Common p (e ∷ es)
further p e es (k, passes, some) = (k, passes, elim (is_key k e.0) as (λ b. IsSome (cond b (Some e.1) (find key_cmp k es))) [ true ↦ refl | false ↦ some ])

common : (p : Key → Bool) (es : List (Key × Option (List ℕ))) → list_any p (map (λ e. e.0) es) ≡ true → Common p es
common p [] t = absurd (cc)
common p (e ∷ es) t = elim (p e.0) as (λ b. p e.0 ≡ b → (b || list_any p (map (λ e. e.0) es)) ≡ true → Common p (e ∷ es)) [
  | true ↦ λ passes _. (e.0, passes, ap (λ b. is_some (cond b (Some e.1) (find key_cmp e.0 es))) (same_key e.0))
  | false ↦ λ _ rest. further p e es (common p es rest)
] refl t

any_of : (p : Key → Bool) (k : Key) (es : List (Key × Option (List ℕ))) → p k ≡ true → IsSome (find key_cmp k es) → list_any p (map (λ e. e.0) es) ≡ true
any_of p k [] passes some = absurd (cc)
any_of p k (e ∷ es) passes some = elim (is_key k e.0) as (λ b. is_key k e.0 ≡ b → IsSome (cond b (Some e.1) (find key_cmp k es)) → (p e.0 || list_any p (map (λ e. e.0) es)) ≡ true) [
  | true ↦ λ t _. ap (λ b. b || list_any p (map (λ e. e.0) es)) (ap p (sym (one_key k e.0 t)) ∙ passes)
  | false ↦ λ _ rest. or_true (p e.0) _ (any_of p k es passes rest)
] refl some

-- of the test that `shares_key` is
pub shared : (looks : List Look) (writes : Writes) → list_any (any_covers looks) (keys writes) ≡ true → (k : Key) × IsTrue (any_covers looks k) × IsSome (get writes k)
shared looks writes t =
    let at : Common (any_covers looks) (entries writes) = common (any_covers looks) (entries writes) t in
    (at.0, at.1, subst IsSome (sym (get-entries writes at.0)) at.2)

pub shares : (looks : List Look) (writes : Writes) (k : Key) → IsTrue (any_covers looks k) → IsSome (get writes k) → list_any (any_covers looks) (keys writes) ≡ true
shares looks writes k covered some = any_of (any_covers looks) k (entries writes) covered (subst IsSome (get-entries writes k) some)

pub apart : (looks : List Look) (writes : Writes) → list_any (any_covers looks) (keys writes) ≡ false → (k : Key) → IsTrue (any_covers looks k) → get writes k ≡ None
apart looks writes f k covered = elim (get writes k) as (λ w. get writes k ≡ w → w ≡ None) [
  | None ↦ λ e. refl
  | Some w ↦ λ e. absurd (let both = shares looks writes k covered (ap is_some e) in cc)
] refl

pub shares_none : (looks : List Look) (writes : Writes) → ((k : Key) → IsTrue (any_covers looks k) → get writes k ≡ None) → list_any (any_covers looks) (keys writes) ≡ false
shares_none looks writes none = elim (list_any (any_covers looks) (keys writes)) as (λ b. list_any (any_covers looks) (keys writes) ≡ b → b ≡ false) [
  | true ↦ λ t. absurd (
      let at : (k : Key) × IsTrue (any_covers looks k) × IsSome (get writes k) = shared looks writes t in
      let some = at.2 in
      let gone = none at.0 at.1 in
      cc)
  | false ↦ λ f. refl
] refl
