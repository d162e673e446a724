-- A look in two parts.
use Rattle.std.proofs.Common.{◌≡◌, ℕ, ◌+◌, ◌≤◌, List, refl, sym, ap, ◌∙◌, arith, Bool, true, false, cond}
use Rattle.std.specs.Prelude.{IsTrue, Option, Some, None, not, ◌||◌, slice_get}
use Rattle.std.specs.Option.{option_or}
use Rattle.std.specs.FinMap.{get, retain_keys, len, entries, get-retain_keys}
use Rattle.std.proofs.lemmas.Bool.Decides.{nat_tests}
use Rattle.schema.specs.declared.look.Look.{Look}
use Rattle.schema.specs.Rows.{Key, key_cmp_total, key_cmp-IsAntisymmetric, Rows, covers, rows_in, count_in, first_in, IsVacant, low_part, high_part}
use Rattle.schema.proofs.MapLemmas.{len_split}
use Rattle.schema.proofs.RowsLemmas.{same_rows}
use Rattle.schema.proofs.LookLemmas.{get-rows_in, is_first, first_is, vacant_where_no_first}

-- ---- rows by a test of their keys

pub get-kept : (rows : Rows) (p : Key → Bool) (q : Key) → get (retain_keys rows p) q ≡ cond (p q) (get rows q) None
get-kept rows p q = get-retain_keys rows p q (λ x e. ap p (sym (key_cmp-IsAntisymmetric q x e)))

-- a count in two parts: the keys that pass are those of m in the first look, the others those of n in the second
pub count_parts : (look first second : Look) (rows m n : Rows) (p : Key → Bool)
    → ((q : Key) → cond (p q) (cond (covers look q) (get rows q) None) None ≡ cond (covers first q) (get m q) None)
    → ((q : Key) → cond (not (p q)) (cond (covers look q) (get rows q) None) None ≡ cond (covers second q) (get n q) None)
    → count_in look rows ≡ count_in first m + count_in second n
count_parts look first second rows m n p passing others =
    let part : (test : Key → Bool) (other : Look) (r : Rows) → ((q : Key) → cond (test q) (cond (covers look q) (get rows q) None) None ≡ cond (covers other q) (get r q) None) → retain_keys (rows_in look rows) test ≡ rows_in other r =
    λ test other r same. same_rows _ _ (λ q.
    get-kept (rows_in look rows) test q ∙ ap (λ x. cond (test q) x None) (get-rows_in look rows q) ∙ same q ∙ sym (get-rows_in other r q)) in
    len_split key_cmp_total key_cmp-IsAntisymmetric (rows_in look rows) p
    ∙ (λ i. len (part p first m passing i) + len (part (λ q. not (p q)) second n others i))

-- ---- what the parts cover

pub inside_look : (look : Look) (k : Key) → IsTrue (covers look k) → (look.table ≡ k.0) × (look.lo ≤ k.1) × (k.1 ≤ look.hi)
inside_look look k t = (grind (arith, nat_tests), grind (arith, nat_tests), grind (arith, nat_tests))

pub in_look : (look : Look) (k : Key) → look.table ≡ k.0 → look.lo ≤ k.1 → k.1 ≤ look.hi → IsTrue (covers look k)
in_look look k table from to = grind (arith, nat_tests)

pub split_covers : (look : Look) (key : ℕ) (k : Key) → look.lo ≤ key → key ≤ look.hi → covers look k ≡ (covers (low_part look key) k || covers (high_part look key) k)
split_covers look key k from to = grind (arith, nat_tests)

pub low_inside : (look : Look) (key : ℕ) → key ≤ look.hi → (k : Key) → IsTrue (covers (low_part look key) k) → IsTrue (covers look k)
low_inside look key to k t = grind (arith, nat_tests)

low_not_high : (look : Look) (key : ℕ) (k : Key) → covers (low_part look key) k ≡ true → covers (high_part look key) k ≡ false
low_not_high look key k t = grind (arith, nat_tests)

-- of two keys that a look covers, one that isn't above the other nor below it is that one
pub same_place : (look : Look) (k q : Key) → IsTrue (covers look k) → IsTrue (covers (low_part look k.1) q) → k.1 ≤ q.1 → q ≡ k
same_place look k q t u at =
    let table : q.0 ≡ k.0 = grind (arith, nat_tests) in
    let key : q.1 ≡ k.1 = grind (arith, nat_tests) in
    λ i. (table i, key i)

-- ---- counts and first rows

low_rows : (all low high : Bool) (x : Option (List ℕ)) → all ≡ (low || high) → cond low (cond all x None) None ≡ cond low x None
low_rows all true high x e = ap (λ b. cond b x None) e
low_rows all false high x e = refl

high_rows : (all low high : Bool) (x : Option (List ℕ)) → all ≡ (low || high) → (low ≡ true → high ≡ false) → cond (not low) (cond all x None) None ≡ cond high x None
high_rows all true high x e apart = sym (ap (λ b. cond b x None) (apart refl))
high_rows all false high x e apart = ap (λ b. cond b x None) e

pub count_of_parts : (look : Look) (key : ℕ) (rows : Rows) → look.lo ≤ key → key ≤ look.hi → count_in look rows ≡ count_in (low_part look key) rows + count_in (high_part look key) rows
count_of_parts look key rows from to = count_parts look (low_part look key) (high_part look key) rows rows rows (covers (low_part look key))
    (λ q. low_rows (covers look q) (covers (low_part look key) q) (covers (high_part look key) q) (get rows q) (split_covers look key q from to))
    (λ q. high_rows (covers look q) (covers (low_part look key) q) (covers (high_part look key) q) (get rows q) (split_covers look key q from to) (low_not_high look key q))

only_high : (low high : Bool) (x : Option (List ℕ)) → (low ≡ true → x ≡ None) → cond (low || high) x None ≡ cond high x None
only_high true true x none = refl
only_high true false x none = none refl
only_high false high x none = refl

-- where the low part has no rows, all are those of the high part
pub rows_above : (look : Look) (key : ℕ) (rows : Rows) → look.lo ≤ key → key ≤ look.hi → IsVacant (low_part look key) rows → rows_in look rows ≡ rows_in (high_part look key) rows
rows_above look key rows from to none = same_rows _ _ (λ q.
    get-rows_in look rows q ∙ ap (λ b. cond b (get rows q) None) (split_covers look key q from to)
    ∙ only_high (covers (low_part look key) q) (covers (high_part look key) q) (get rows q) (none q)
    ∙ sym (get-rows_in (high_part look key) rows q))

pub first_of_parts : (look : Look) (key : ℕ) (rows : Rows) → look.lo ≤ key → key ≤ look.hi → first_in look rows ≡ option_or (first_in (low_part look key) rows) (first_in (high_part look key) rows)
first_of_parts look key rows from to =
    let low = low_part look key in
    elim (first_in low rows) as (λ x. first_in low rows ≡ x → first_in look rows ≡ option_or x (first_in (high_part look key) rows)) [
      | None ↦ λ none. ap (λ r. slice_get (entries r) 0) (rows_above look key rows from to (vacant_where_no_first low rows none))
      | Some e ↦ λ one.
          let first = is_first low rows e.0 e.1 one in
          let ends = inside_look low e.0 first.covered in
          first_is look rows e.0 e.1 (record {
            covered = low_inside look key to e.0 first.covered;
            stands = first.stands;
            least = λ q t some. elim (covers low q) as (λ b. covers low q ≡ b → e.0.1 ≤ q.1) [
              | true ↦ λ c. first.least q c some
              | false ↦ λ c. let top : e.0.1 ≤ key = ends.2 in grind (arith, nat_tests)
            ] refl;
          })
    ] refl
