-- The first row of a look, and those behind it.
use Rattle.std.proofs.Common.{◌≡◌, ℕ, ◌≤◌, Bool, true, false, cond, List, [], ◌∷◌, Option, Some, None, IsSome, refl, sym, ap, ◌∙◌, arith}
use Rattle.std.specs.Prelude.{IsTrue, slice_get}
use Rattle.std.proofs.lemmas.Bool.Decides.{nat_tests}
use Rattle.std.specs.Cmp.{tied_itself}
use Rattle.std.specs.declared.cmp.Ordering.{Ordering}
use Rattle.std.specs.declared.cmp.Ordering.TheVariants.{Less, Equal, Greater}
use Rattle.std.specs.Ordering.{eq_by_cmp, is_eq}
use Rattle.std.specs.FinMap.Entries.{by_order, put}
use Rattle.std.specs.FinMap.{get, insert, entries, entries-insert, get-insert}
use Rattle.schema.specs.declared.look.Look.{Look}
use Rattle.schema.specs.Rows.{Key, key_cmp, key_cmp_total, key_cmp-IsAntisymmetric, Rows, covers, rows_in, first_in, IsFirst, high_part}
use Rattle.schema.proofs.RowsLemmas.{same_rows}
use Rattle.schema.proofs.LookLemmas.{get-rows_in, is_first, no_first_where_vacant}

first_put : (k : Key) (bytes : List ℕ) (es : List (Key × List ℕ)) → ((e : Key × List ℕ) → slice_get es 0 ≡ Some e → key_cmp k e.0 ≡ Less)
    → put key_cmp k bytes es ≡ (k, bytes) ∷ es
first_put k bytes [] above = refl
first_put k bytes (e ∷ es) above =
    ap (λ r. by_order r ((k, bytes) ∷ e ∷ es) ((e.0, bytes) ∷ es) (e ∷ put key_cmp k bytes es)) (above e refl)

in_order : (look : Look) (k q : Key) → IsTrue (covers look k) → IsTrue (covers (high_part look k.1) q) → key_cmp k q ≡ Less
in_order look k q at above = grind (arith, nat_tests)

high_inside : (look : Look) (key : ℕ) (q : Key) → look.lo ≤ key → covers look q ≡ false → covers (high_part look key) q ≡ false
high_inside look key q from out = grind (arith, nat_tests)

not_itself : (look : Look) (k : Key) → covers (high_part look k.1) k ≡ false
not_itself look k = grind (arith, nat_tests)

at_first : (look : Look) (k q : Key) → IsTrue (covers look k) → covers look q ≡ true → covers (high_part look k.1) q ≡ false → k.1 ≤ q.1 → q ≡ k
at_first look k q at inside low least =
    let table : q.0 ≡ k.0 = grind (arith, nat_tests) in
    let key : q.1 ≡ k.1 = grind (arith, nat_tests) in
    λ i. (table i, key i)

from_lo : (look : Look) (k : Key) → IsTrue (covers look k) → look.lo ≤ k.1
from_lo look k at = grind (arith, nat_tests)

some_or_none : (o : Option (List ℕ)) → (IsSome o → ⊥) → o ≡ None
some_or_none None h = refl
some_or_none (Some x) h = absurd (h refl)

tied : (o : Ordering) → is_eq o ≡ true → o ≡ Equal
tied Less e = absurd cc
tied Equal e = refl
tied Greater e = absurd cc

itself : (k : Key) → eq_by_cmp key_cmp k k ≡ true
itself k = ap is_eq (tied_itself key_cmp_total k)

-- what a look finds is its first row, and what the part above that finds
module _ (look : Look) (rows : Rows) (k : Key) (bytes : List ℕ) (first : IsFirst look rows k bytes) (q : Key) where
  other : (all high : Bool) → covers look q ≡ all → covers (high_part look k.1) q ≡ high → eq_by_cmp key_cmp q k ≡ false
      → cond all (get rows q) None ≡ cond high (get rows q) None
  other false high out is not = ap (λ (b : Bool). cond b (get rows q) None) (sym (high_inside look k.1 q (from_lo look k first.covered) out) ∙ is)
  other true true inside is not = refl
  other true false inside is not = some_or_none (get rows q) (λ some.
      let same = at_first look k q first.covered inside is (first.least q inside some) in
      let tie : eq_by_cmp key_cmp q k ≡ true = ap (λ (p : Key). eq_by_cmp key_cmp p k) same ∙ itself k in
      absurd cc)

  here : (b : Bool) → eq_by_cmp key_cmp q k ≡ b
      → cond (covers look q) (get rows q) None ≡ cond b (Some bytes) (cond (covers (high_part look k.1) q) (get rows q) None)
  here true is =
      let same : q ≡ k = key_cmp-IsAntisymmetric q k (tied (key_cmp q k) is) in
      ap (λ (p : Key). cond (covers look p) (get rows p) None) same ∙ ap (λ (b : Bool). cond b (get rows k) None) first.covered ∙ first.stands
  here false is = other (covers look q) (covers (high_part look k.1) q) refl refl is

  pub with_first : cond (covers look q) (get rows q) None ≡ cond (eq_by_cmp key_cmp q k) (Some bytes) (cond (covers (high_part look k.1) q) (get rows q) None)
  with_first = here (eq_by_cmp key_cmp q k) refl

inserted : (look : Look) (rows : Rows) (k : Key) (bytes : List ℕ) → IsFirst look rows k bytes → rows_in look rows ≡ insert (rows_in (high_part look k.1) rows) k bytes
inserted look rows k bytes first = same_rows _ _ (λ q.
    get-rows_in look rows q ∙ with_first look rows k bytes first q
    ∙ sym (get-insert key_cmp_total (rows_in (high_part look k.1) rows) k bytes q
    ∙ ap (cond (eq_by_cmp key_cmp q k) (Some bytes)) (get-rows_in (high_part look k.1) rows q)))

pub first_and_rest : (look : Look) (rows : Rows) (k : Key) (bytes : List ℕ) → first_in look rows ≡ Some (k, bytes)
    → entries (rows_in look rows) ≡ (k, bytes) ∷ entries (rows_in (high_part look k.1) rows)
first_and_rest look rows k bytes is =
    let first = is_first look rows k bytes is in
    let above = high_part look k.1 in
    ap entries (inserted look rows k bytes first) ∙ entries-insert key_cmp_total (rows_in above rows) k bytes
    ∙ first_put k bytes (entries (rows_in above rows)) (λ e one. in_order look k e.0 first.covered (is_first above rows e.0 e.1 one).covered)

none_first : {X : Type 0} (es : List X) → slice_get es 0 ≡ None → es ≡ []
none_first [] is = refl
none_first (e ∷ es) is = absurd cc

pub no_rows : (look : Look) (rows : Rows) → first_in look rows ≡ None → entries (rows_in look rows) ≡ []
no_rows look rows is = none_first (entries (rows_in look rows)) is

-- no key is above the greatest
pub none_above : (look : Look) (rows : Rows) (key : ℕ) → look.hi ≤ key → entries (rows_in (high_part look key) rows) ≡ []
none_above look rows key top = no_rows above rows (no_first_where_vacant above rows (λ k inside. absurd (outside k inside)))
  where
    above : Look
    above = high_part look key

    outside : (k : Key) → IsTrue (covers above k) → ⊥
    outside k inside = grind (arith, nat_tests)
