-- One value each decides.
use Rattle.std.proofs.Common.{◌≡◌, ℕ, ◌<◌, ◌≤◌, ◌∙◌, ap, max, min, bit_and, arith, refl, Bool, true, false, not, nat_lt, nat_le, ◌==◌, ◌&&◌, ◌||◌, if◌then◌else◌, Option, Some, None}
use Rattle.std.proofs.lemmas.Bool.Decides.{nat_tests}
use Rattle.bpf_words.specs.Condition.{holds}
use Rattle.bpf_words.specs.declared.condition.Condition.{Condition}
use Rattle.bpf_words.specs.declared.condition.Condition.TheVariants.{Eq, Gt, Ge, Set, Ne, Sgt, Sge, Lt, Le, Slt, Sle}
use Rattle.bpf_words.proofs.Words.{opposite_excludes}
use Rattle.interval.specs.Range.{Bounds, IsWithin, from_to, single}
use Rattle.range_refine.specs.Refinement.{unless, exchange, both_single, where_equal, where_unequal, where_greater, where_at_least, where_bit_shared, where_no_bit_shared, where_holds, where_fails, along, limit, are_below, is_followed, as_before, refinement}
use Rattle.range_refine.proofs.Kept.{AreKept, ArePlain, holds_says, opposite_says, no_bit, all_kept}
use Rattle.range_refine.proofs.Inside.{IsPart, AreParts, all_parts}

part_of_one : (x : ℕ) (r : Bounds) → IsPart (single x) r → IsWithin r x → r ≡ single x
part_of_one x r p w =
    let lo : r.lo ≡ x = omega arith in
    let hi : r.hi ≡ x = omega arith in
    ap (λ l. from_to l r.hi) lo ∙ ap (λ h. from_to x h) hi

one_kept : (ranges : Option (Bounds × Bounds)) (x y : ℕ) → AreParts ranges (single x) (single y) → AreKept ranges x y → ranges ≡ Some (single x, single y)
one_kept None x y p k = absurd k
one_kept (Some r) x y p k =
    ap (λ s. Some (s, r.1)) (part_of_one x r.0 p.0 k.0) ∙ ap (λ s. Some (single x, s)) (part_of_one y r.1 p.1 k.1)

itself : (x : ℕ) → IsWithin (single x) x
itself x = record { from = omega arith; to = omega arith }

pub one_followed : (n : ℕ) (condition : Condition) (taken : Bool) (x y : ℕ) → holds n condition x y ≡ taken → refinement n condition taken (single x) (single y) ≡ Some (single x, single y)
one_followed n condition taken x y h = one_kept _ x y (all_parts n condition taken (single x) (single y) (omega arith) (omega arith)) (all_kept n condition taken (single x) (single y) x y (itself x) (itself y) h)

none_unless : (t : Bool) (r : Bounds × Bounds) → t ≡ true → unless t r ≡ None
none_unless true r e = refl
none_unless false r e = absurd cc

none_exchange : (ranges : Option (Bounds × Bounds)) → ranges ≡ None → exchange ranges ≡ None
none_exchange ranges e = ap exchange e

equal_none : (x y : ℕ) → (x ≡ y → ⊥) → where_equal (single x) (single y) ≡ None
unfolding where_equal
equal_none x y h = none_unless (nat_lt (min x y) (max x y)) _ (grind (arith, nat_tests))

unequal_none : (x y : ℕ) → x ≡ y → where_unequal (single x) (single y) ≡ None
unfolding where_unequal
unequal_none x y h = none_unless (both_single (single x) (single y) && x == y) _ (grind (arith, nat_tests))

greater_none : (x y : ℕ) → x ≤ y → where_greater (single x) (single y) ≡ None
unfolding where_greater
greater_none x y h = none_unless (nat_le x y) _ (grind (arith, nat_tests))

at_least_none : (x y : ℕ) → x < y → where_at_least (single x) (single y) ≡ None
unfolding where_at_least
at_least_none x y h = none_unless (nat_lt x y) _ (grind (arith, nat_tests))

shared_none : (x y : ℕ) → bit_and x y ≡ 0 → where_bit_shared (single x) (single y) ≡ None
unfolding where_bit_shared
shared_none x y h = none_unless (x == 0 || y == 0 || (both_single (single x) (single y) && bit_and x y == 0)) _ (grind (arith, nat_tests))

no_shared_none : (x y : ℕ) → (bit_and x y ≡ 0 → ⊥) → where_no_bit_shared (single x) (single y) ≡ None
unfolding where_no_bit_shared
no_shared_none x y h = none_unless (both_single (single x) (single y) && not (bit_and x y == 0)) _ (grind (arith, nat_tests))

holds_none : (n : ℕ) (condition : Condition) (x y : ℕ) → ArePlain n condition x y → holds n condition x y ≡ false → where_holds condition (single x) (single y) ≡ None
unfolding where_holds
holds_none n Eq x y p h = equal_none x y (opposite_says n Eq Ne x y refl (opposite_excludes Eq n x y) p h)
holds_none n Gt x y p h = greater_none x y (opposite_says n Gt Le x y refl (opposite_excludes Gt n x y) p h)
holds_none n Ge x y p h = at_least_none x y (opposite_says n Ge Lt x y refl (opposite_excludes Ge n x y) p h)
holds_none n Set x y p h = shared_none x y (no_bit n x y p h)
holds_none n Ne x y p h = unequal_none x y (opposite_says n Ne Eq x y refl (opposite_excludes Ne n x y) p h)
holds_none n Sgt x y p h = greater_none x y (opposite_says n Sgt Sle x y refl (opposite_excludes Sgt n x y) p h)
holds_none n Sge x y p h = at_least_none x y (opposite_says n Sge Slt x y refl (opposite_excludes Sge n x y) p h)
holds_none n Lt x y p h = none_exchange _ (greater_none y x (opposite_says n Lt Ge x y refl (opposite_excludes Lt n x y) p h))
holds_none n Le x y p h = none_exchange _ (at_least_none y x (opposite_says n Le Gt x y refl (opposite_excludes Le n x y) p h))
holds_none n Slt x y p h = none_exchange _ (greater_none y x (opposite_says n Slt Sge x y refl (opposite_excludes Slt n x y) p h))
holds_none n Sle x y p h = none_exchange _ (at_least_none y x (opposite_says n Sle Sgt x y refl (opposite_excludes Sle n x y) p h))

fails_none : (n : ℕ) (condition : Condition) (x y : ℕ) → ArePlain n condition x y → holds n condition x y ≡ true → where_fails condition (single x) (single y) ≡ None
unfolding where_fails where_holds
fails_none n Eq x y p h = unequal_none x y (holds_says n Eq x y p h)
fails_none n Gt x y p h = none_exchange _ (at_least_none y x (holds_says n Gt x y p h))
fails_none n Ge x y p h = none_exchange _ (greater_none y x (holds_says n Ge x y p h))
fails_none n Set x y p h = no_shared_none x y (holds_says n Set x y p h)
fails_none n Ne x y p h = equal_none x y (holds_says n Ne x y p h)
fails_none n Sgt x y p h = none_exchange _ (at_least_none y x (holds_says n Sgt x y p h))
fails_none n Sge x y p h = none_exchange _ (greater_none y x (holds_says n Sge x y p h))
fails_none n Lt x y p h = at_least_none x y (holds_says n Lt x y p h)
fails_none n Le x y p h = greater_none x y (holds_says n Le x y p h)
fails_none n Slt x y p h = at_least_none x y (holds_says n Slt x y p h)
fails_none n Sle x y p h = greater_none x y (holds_says n Sle x y p h)

other_way : (b t : Bool) → (b ≡ t → ⊥) → b ≡ not t
other_way true true h = absurd (h refl)
other_way true false h = refl
other_way false true h = refl
other_way false false h = absurd (h refl)

along_none : (n : ℕ) (condition : Condition) (taken : Bool) (x y : ℕ) → ArePlain n condition x y → (holds n condition x y ≡ taken → ⊥) → along condition taken (single x) (single y) ≡ None
along_none n condition true x y p h = holds_none n condition x y p (other_way _ true h)
along_none n condition false x y p h = fails_none n condition x y p (other_way _ false h)

not_followed : (n : ℕ) (condition : Condition) (taken : Bool) (x y : ℕ) → (holds n condition x y ≡ taken → ⊥) → is_followed n condition taken x y ≡ false
not_followed n condition true x y h = other_way _ true h
not_followed n condition false x y h = rw (other_way _ false h) refl

before_none : (n : ℕ) (condition : Condition) (taken : Bool) (x y : ℕ) → (holds n condition x y ≡ taken → ⊥) → as_before n condition taken (single x) (single y) ≡ None
unfolding as_before
before_none n condition taken x y h = let g = not_followed n condition taken x y h in none_unless (both_single (single x) (single y) && not (is_followed n condition taken x y)) _ (grind (arith, nat_tests))

none_if : (t : Bool) (r s : Option (Bounds × Bounds)) → (t ≡ true → r ≡ None) → (t ≡ false → s ≡ None) → (if t then r else s) ≡ None
none_if true r s p q = p refl
none_if false r s p q = q refl

plain_one : (n : ℕ) (condition : Condition) (x y : ℕ) → are_below (limit n condition) (single x) (single y) ≡ true → ArePlain n condition x y
plain_one n condition x y t = record { left = grind (arith, nat_tests); right = grind (arith, nat_tests) }

pub one_dropped : (n : ℕ) (condition : Condition) (taken : Bool) (x y : ℕ) → (holds n condition x y ≡ taken → ⊥) → refinement n condition taken (single x) (single y) ≡ None
unfolding refinement
one_dropped n condition taken x y h = none_if (are_below (limit n condition) (single x) (single y)) _ _ (λ t. along_none n condition taken x y (plain_one n condition x y t) h) (λ t. before_none n condition taken x y h)
