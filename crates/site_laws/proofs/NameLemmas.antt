-- What is found by its name among procedures that only grow.
use Rattle.std.proofs.Common.{◌≡◌, ℕ, Bool, true, false, cond, nat_eq, List, [], ◌∷◌, ◌++◌, map, Option, Some, None, refl, sym, ap, subst, ◌∙◌, arith}
use Rattle.std.specs.List.{AllByRecursion, IsDistinct}
use Rattle.std.specs.Str.{bytes_eq}
use Rattle.std.proofs.lemmas.Bool.Decides.{nat_tests}
use Rattle.log_model.specs.Log.{StoredProcedure, Catalogue, by_name, by_number}

some_same : (p q : StoredProcedure) → Some p ≡ Some q → p ≡ q
some_same p q e = cc

-- ---- what is found stays found

pub name_stays : (ps more : Catalogue) (name : List ℕ) (p : StoredProcedure) → by_name ps name ≡ Some p → by_name (ps ++ more) name ≡ Some p
name_stays [] more name p e = absurd cc
name_stays (q ∷ ps) more name p e = elim (bytes_eq q.name name) as (λ b. cond b (Some q) (by_name ps name) ≡ Some p → cond b (Some q) (by_name (ps ++ more) name) ≡ Some p) [
  | true ↦ λ h. h
  | false ↦ λ h. name_stays ps more name p h
] e

pub number_stays : (ps more : Catalogue) (number : ℕ) (p : StoredProcedure) → by_number ps number ≡ Some p → by_number (ps ++ more) number ≡ Some p
number_stays [] more number p e = absurd cc
number_stays (q ∷ ps) more number p e = elim (nat_eq q.number number) as (λ b. cond b (Some q) (by_number ps number) ≡ Some p → cond b (Some q) (by_number (ps ++ more) number) ≡ Some p) [
  | true ↦ λ h. h
  | false ↦ λ h. number_stays ps more number p h
] e

-- what isn't found wasn't
pub no_name_before : (ps more : Catalogue) (name : List ℕ) → by_name (ps ++ more) name ≡ None → by_name ps name ≡ None
no_name_before ps more name none = by_found (by_name ps name) refl
  where
    by_found : (o : Option StoredProcedure) → by_name ps name ≡ o → by_name ps name ≡ None
    by_found None e = e
    by_found (Some p) e = absurd (let found = sym (name_stays ps more name p e) ∙ none in cc)

pub no_number_before : (ps more : Catalogue) (number : ℕ) → by_number (ps ++ more) number ≡ None → by_number ps number ≡ None
no_number_before ps more number none = by_found (by_number ps number) refl
  where
    by_found : (o : Option StoredProcedure) → by_number ps number ≡ o → by_number ps number ≡ None
    by_found None e = e
    by_found (Some p) e = absurd (let found = sym (number_stays ps more number p e) ∙ none in cc)

-- ---- who is found by a name is found by its number

abbrev pub HaveOwnNumbers : Catalogue → Type 0
HaveOwnNumbers ps = (name : List ℕ) (p : StoredProcedure) → by_name ps name ≡ Some p → by_number ps p.number ≡ Some p

-- one that is found has another number than one that all differ from
other_number : (number : ℕ) (ps : Catalogue) (name : List ℕ) (p : StoredProcedure) → AllByRecursion (λ y. nat_eq number y ≡ false) (map (λ (q : StoredProcedure). q.number) ps) → by_name ps name ≡ Some p → nat_eq number p.number ≡ false
other_number number [] name p all e = absurd cc
other_number number (q ∷ ps) name p all e = elim (bytes_eq q.name name) as (λ b. cond b (Some q) (by_name ps name) ≡ Some p → nat_eq number p.number ≡ false) [
  | true ↦ λ h. subst (λ (x : StoredProcedure). nat_eq number x.number ≡ false) (some_same q p h) all.0
  | false ↦ λ h. other_number number ps name p all.1 h
] e

pub own_numbers : (ps : Catalogue) → IsDistinct nat_eq (map (λ (q : StoredProcedure). q.number) ps) → HaveOwnNumbers ps
unfolding IsDistinct
own_numbers [] distinct name p e = absurd cc
own_numbers (q ∷ ps) distinct name p e = elim (bytes_eq q.name name) as (λ b. cond b (Some q) (by_name ps name) ≡ Some p → by_number (q ∷ ps) p.number ≡ Some p) [
  | true ↦ λ h.
      let same = some_same q p h in
      let own : nat_eq q.number q.number ≡ true = grind (arith, nat_tests) in
      subst (λ (x : StoredProcedure). by_number (q ∷ ps) x.number ≡ Some x) same (ap (λ (t : Bool). cond t (Some q) (by_number ps q.number)) own)
  | false ↦ λ h.
      let other = other_number q.number ps name p distinct.0 h in
      ap (λ (t : Bool). cond t (Some q) (by_number ps p.number)) other ∙ own_numbers ps distinct.1 name p h
] e

-- one more of a new number
new_found : (ps : Catalogue) (p : StoredProcedure) → by_number ps p.number ≡ None → by_number (ps ++ p ∷ []) p.number ≡ Some p
new_found [] p none = let own : nat_eq p.number p.number ≡ true = grind (arith, nat_tests) in ap (λ (t : Bool). cond t (Some p) None) own
new_found (q ∷ ps) p none = elim (nat_eq q.number p.number) as (λ b. cond b (Some q) (by_number ps p.number) ≡ None → cond b (Some q) (by_number (ps ++ p ∷ []) p.number) ≡ Some p) [
  | true ↦ λ h. absurd cc
  | false ↦ λ h. new_found ps p h
] none

named_before : (ps : Catalogue) (p q : StoredProcedure) (name : List ℕ) → by_name ps name ≡ None → by_name (ps ++ p ∷ []) name ≡ Some q → p ≡ q
named_before [] p q name none e = elim (bytes_eq p.name name) as (λ b. cond b (Some p) None ≡ Some q → p ≡ q) [
  | true ↦ λ h. some_same p q h
  | false ↦ λ h. absurd cc
] e
named_before (x ∷ ps) p q name none e = elim (bytes_eq x.name name) as (λ b. cond b (Some x) (by_name ps name) ≡ None → cond b (Some x) (by_name (ps ++ p ∷ []) name) ≡ Some q → p ≡ q) [
  | true ↦ λ n h. absurd cc
  | false ↦ λ n h. named_before ps p q name n h
] none e

pub one_more_has_its_own : (ps : Catalogue) (p : StoredProcedure) → by_number ps p.number ≡ None → HaveOwnNumbers ps → HaveOwnNumbers (ps ++ p ∷ [])
one_more_has_its_own ps p new own name q e = by_found (by_name ps name) refl
  where
    by_found : (o : Option StoredProcedure) → by_name ps name ≡ o → by_number (ps ++ p ∷ []) q.number ≡ Some q
    by_found None none = subst (λ (x : StoredProcedure). by_number (ps ++ p ∷ []) x.number ≡ Some x) (named_before ps p q name none e) (new_found ps p new)
    by_found (Some x) found =
        let same : x ≡ q = some_same x q (sym (name_stays ps (p ∷ []) name x found) ∙ e) in
        number_stays ps (p ∷ []) q.number q (own name q (found ∙ ap Some same))
