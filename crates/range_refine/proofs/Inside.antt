-- The ranges along an edge are parts of those before.
use Rattle.std.proofs.Common.{◌≡◌, ℕ, ◌<◌, ◌≤◌, max, min, arith, refl, Bool, true, false, nat_lt, nat_le, ◌==◌, ◌&&◌, if◌then◌else◌, Option, Some, None, IfSome}
use Rattle.std.proofs.lemmas.Bool.Decides.{nat_tests}
use Rattle.bpf_words.specs.declared.condition.Condition.{Condition}
use Rattle.bpf_words.specs.declared.condition.Condition.TheVariants.{Eq, Gt, Ge, Set, Ne, Sgt, Sge, Lt, Le, Slt, Sle}
use Rattle.interval.specs.Range.{Bounds, IsRange, IsInside}
use Rattle.range_refine.specs.Refinement.{unless, exchange, both_single, without, where_equal, where_unequal, where_greater, where_at_least, where_bit_shared, where_no_bit_shared, where_holds, where_fails, along, limit, are_below, as_before, refinement}

-- a range between two ends of another
pub record IsPart (outer inner : Bounds) : Type 0 where
  pub from : outer.lo ≤ inner.lo
  pub ordered : inner.lo ≤ inner.hi
  pub to : inner.hi ≤ outer.hi

abbrev pub AreParts : Option (Bounds × Bounds) → Bounds → Bounds → Type 0
AreParts ranges a b = IfSome ranges (λ r. IsPart a r.0 × IsPart b r.1)

parts_unless : (t : Bool) (r : Bounds × Bounds) (a b : Bounds) → (t ≡ false → IsPart a r.0 × IsPart b r.1) → AreParts (unless t r) a b
parts_unless true r a b p = tt
parts_unless false r a b p = p refl

parts_exchange : (ranges : Option (Bounds × Bounds)) (a b : Bounds) → AreParts ranges b a → AreParts (exchange ranges) a b
parts_exchange None a b h = h
parts_exchange (Some r) a b h = (h.1, h.0)

whole : (a b : Bounds) → a.lo ≤ a.hi → b.lo ≤ b.hi → IsPart a a × IsPart b b
whole a b oa ob = (record { from = omega arith; ordered = oa; to = omega arith }, record { from = omega arith; ordered = ob; to = omega arith })

equal_parts : (a b : Bounds) → AreParts (where_equal a b) a b
unfolding where_equal
equal_parts a b = parts_unless (nat_lt (min a.hi b.hi) (max a.lo b.lo)) _ a b (λ t.
    let le : max a.lo b.lo ≤ min a.hi b.hi = grind (arith, nat_tests) in
    (record { from = omega arith; ordered = le; to = omega arith }, record { from = omega arith; ordered = le; to = omega arith }))

without_part : (a b : Bounds) → a.lo ≤ a.hi → (both_single a b && a.lo == b.lo) ≡ false → IsPart a (without a b)
without_part a b oa t = record { from = grind (arith, nat_tests); ordered = grind (arith, nat_tests); to = grind (arith, nat_tests) }

unequal_parts : (a b : Bounds) → a.lo ≤ a.hi → b.lo ≤ b.hi → AreParts (where_unequal a b) a b
unfolding where_unequal
unequal_parts a b oa ob = parts_unless (both_single a b && a.lo == b.lo) _ a b (λ t. (without_part a b oa t, without_part b a ob (grind (arith, nat_tests))))

greater_parts : (a b : Bounds) → a.lo ≤ a.hi → b.lo ≤ b.hi → AreParts (where_greater a b) a b
unfolding where_greater
greater_parts a b oa ob = parts_unless (nat_le a.hi b.lo) _ a b (λ t.
    let lt : b.lo < a.hi = grind (arith, nat_tests) in
    (record { from = omega arith; ordered = omega arith; to = omega arith }, record { from = omega arith; ordered = omega arith; to = omega arith }))

at_least_parts : (a b : Bounds) → a.lo ≤ a.hi → b.lo ≤ b.hi → AreParts (where_at_least a b) a b
unfolding where_at_least
at_least_parts a b oa ob = parts_unless (nat_lt a.hi b.lo) _ a b (λ t.
    let le : b.lo ≤ a.hi = grind (arith, nat_tests) in
    (record { from = omega arith; ordered = omega arith; to = omega arith }, record { from = omega arith; ordered = omega arith; to = omega arith }))

shared_parts : (a b : Bounds) → a.lo ≤ a.hi → b.lo ≤ b.hi → AreParts (where_bit_shared a b) a b
unfolding where_bit_shared
shared_parts a b oa ob = parts_unless _ (a, b) a b (λ t. whole a b oa ob)

no_shared_parts : (a b : Bounds) → a.lo ≤ a.hi → b.lo ≤ b.hi → AreParts (where_no_bit_shared a b) a b
unfolding where_no_bit_shared
no_shared_parts a b oa ob = parts_unless _ (a, b) a b (λ t. whole a b oa ob)

holds_parts : (condition : Condition) (a b : Bounds) → a.lo ≤ a.hi → b.lo ≤ b.hi → AreParts (where_holds condition a b) a b
unfolding where_holds
holds_parts Eq a b oa ob = equal_parts a b
holds_parts Gt a b oa ob = greater_parts a b oa ob
holds_parts Ge a b oa ob = at_least_parts a b oa ob
holds_parts Set a b oa ob = shared_parts a b oa ob
holds_parts Ne a b oa ob = unequal_parts a b oa ob
holds_parts Sgt a b oa ob = greater_parts a b oa ob
holds_parts Sge a b oa ob = at_least_parts a b oa ob
holds_parts Lt a b oa ob = parts_exchange _ a b (greater_parts b a ob oa)
holds_parts Le a b oa ob = parts_exchange _ a b (at_least_parts b a ob oa)
holds_parts Slt a b oa ob = parts_exchange _ a b (greater_parts b a ob oa)
holds_parts Sle a b oa ob = parts_exchange _ a b (at_least_parts b a ob oa)

fails_parts : (condition : Condition) (a b : Bounds) → a.lo ≤ a.hi → b.lo ≤ b.hi → AreParts (where_fails condition a b) a b
unfolding where_fails
fails_parts Eq a b oa ob = holds_parts Ne a b oa ob
fails_parts Gt a b oa ob = holds_parts Le a b oa ob
fails_parts Ge a b oa ob = holds_parts Lt a b oa ob
fails_parts Set a b oa ob = no_shared_parts a b oa ob
fails_parts Ne a b oa ob = holds_parts Eq a b oa ob
fails_parts Sgt a b oa ob = holds_parts Sle a b oa ob
fails_parts Sge a b oa ob = holds_parts Slt a b oa ob
fails_parts Lt a b oa ob = holds_parts Ge a b oa ob
fails_parts Le a b oa ob = holds_parts Gt a b oa ob
fails_parts Slt a b oa ob = holds_parts Sge a b oa ob
fails_parts Sle a b oa ob = holds_parts Sgt a b oa ob

along_parts : (condition : Condition) (taken : Bool) (a b : Bounds) → a.lo ≤ a.hi → b.lo ≤ b.hi → AreParts (along condition taken a b) a b
along_parts condition true a b oa ob = holds_parts condition a b oa ob
along_parts condition false a b oa ob = fails_parts condition a b oa ob

before_parts : (n : ℕ) (condition : Condition) (taken : Bool) (a b : Bounds) → a.lo ≤ a.hi → b.lo ≤ b.hi → AreParts (as_before n condition taken a b) a b
unfolding as_before
before_parts n condition taken a b oa ob = parts_unless _ (a, b) a b (λ t. whole a b oa ob)

parts_if : (t : Bool) (r s : Option (Bounds × Bounds)) (a b : Bounds) → AreParts r a b → AreParts s a b → AreParts (if t then r else s) a b
parts_if true r s a b p q = p
parts_if false r s a b p q = q

pub all_parts : (n : ℕ) (condition : Condition) (taken : Bool) (a b : Bounds) → a.lo ≤ a.hi → b.lo ≤ b.hi → AreParts (refinement n condition taken a b) a b
unfolding refinement
all_parts n condition taken a b oa ob = parts_if (are_below (limit n condition) a b) _ _ a b (along_parts condition taken a b oa ob) (before_parts n condition taken a b oa ob)

part_inside : (a r : Bounds) → IsPart a r → IsInside r a
part_inside a r p x w = record { from = omega arith; to = omega arith }

part_range : (a r : Bounds) → IsRange a → IsPart a r → IsRange r
part_range a r ra p = record { ordered = p.ordered; word = omega arith }

parts_inside : (ranges : Option (Bounds × Bounds)) (a b : Bounds) → AreParts ranges a b → IfSome ranges (λ r. IsInside r.0 a × IsInside r.1 b)
parts_inside None a b p = tt
parts_inside (Some r) a b p = (part_inside a r.0 p.0, part_inside b r.1 p.1)

parts_ranges : (ranges : Option (Bounds × Bounds)) (a b : Bounds) → IsRange a → IsRange b → AreParts ranges a b → IfSome ranges (λ r. IsRange r.0 × IsRange r.1)
parts_ranges None a b ra rb p = tt
parts_ranges (Some r) a b ra rb p = (part_range a r.0 ra p.0, part_range b r.1 rb p.1)

pub all_inside : (n : ℕ) (condition : Condition) (taken : Bool) (a b : Bounds) → IsRange a → IsRange b → IfSome (refinement n condition taken a b) (λ r. IsInside r.0 a × IsInside r.1 b)
all_inside n condition taken a b ra rb = parts_inside _ a b (all_parts n condition taken a b ra.ordered rb.ordered)

pub all_ranges : (n : ℕ) (condition : Condition) (taken : Bool) (a b : Bounds) → IsRange a → IsRange b → IfSome (refinement n condition taken a b) (λ r. IsRange r.0 × IsRange r.1)
all_ranges n condition taken a b ra rb = parts_ranges _ a b ra rb (all_parts n condition taken a b ra.ordered rb.ordered)
