-- Each pair of numbers along an edge is in the ranges along it.
use Rattle.std.proofs.Common.{◌≡◌, ℕ, ◌-◌, ◌%◌, ◌^◌, ◌<◌, ◌≤◌, pos, max, min, bit_and, arith, refl, lit<, Bool, true, false, not, nat_lt, nat_le, ◌==◌, ◌&&◌, ◌||◌, if◌then◌else◌, Option, Some, None, IsSomeAnd}
use Rattle.std.proofs.Math.Nat.{mod-eq_of_lt, pow-le-pow_right}
use Rattle.std.proofs.lemmas.Nat.{and_le_l, and_le_r}
use Rattle.std.proofs.lemmas.Int.{ints}
use Rattle.std.proofs.lemmas.Bool.Decides.{nat_tests}
use Rattle.bpf_words.specs.Word.{signed_value}
use Rattle.bpf_words.specs.Condition.{holds, comparison}
use Rattle.bpf_words.specs.declared.condition.Condition.{Condition}
use Rattle.bpf_words.specs.declared.condition.Condition.TheVariants.{Eq, Gt, Ge, Set, Ne, Sgt, Sge, Lt, Le, Slt, Sle}
use Rattle.bpf_words.proofs.Words.{opposite_excludes}
use Rattle.interval.specs.Range.{Bounds, IsWithin}
use Rattle.range_refine.specs.Refinement.{unless, exchange, both_single, without, where_equal, where_unequal, where_greater, where_at_least, where_bit_shared, where_no_bit_shared, where_holds, where_fails, along, is_signed, limit, are_below, is_followed, as_before, refinement}

-- there are ranges, and they have the numbers
abbrev pub AreKept : Option (Bounds × Bounds) → ℕ → ℕ → Type 0
AreKept ranges x y = IsSomeAnd ranges (λ r. IsWithin r.0 x × IsWithin r.1 y)

kept_unless : (t : Bool) (r : Bounds × Bounds) (x y : ℕ) → (t ≡ true → ⊥) → (t ≡ false → IsWithin r.0 x × IsWithin r.1 y) → AreKept (unless t r) x y
kept_unless true r x y p q = absurd (p refl)
kept_unless false r x y p q = q refl

kept_exchange : (ranges : Option (Bounds × Bounds)) (x y : ℕ) → AreKept ranges y x → AreKept (exchange ranges) x y
kept_exchange None x y h = h
kept_exchange (Some r) x y h = (h.1, h.0)

equal_kept : (a b : Bounds) (x y : ℕ) → IsWithin a x → IsWithin b y → x ≡ y → AreKept (where_equal a b) x y
unfolding where_equal
equal_kept a b x y wa wb e = kept_unless (nat_lt (min a.hi b.hi) (max a.lo b.lo)) _ _ _ (λ t. grind (arith, nat_tests))
    (λ t. (record { from = omega arith; to = omega arith }, record { from = omega arith; to = omega arith }))

without_kept : (a b : Bounds) (x y : ℕ) → IsWithin a x → IsWithin b y → (x ≡ y → ⊥) → IsWithin (without a b) x
without_kept a b x y wa wb h = record { from = grind (arith, nat_tests); to = grind (arith, nat_tests) }

unequal_kept : (a b : Bounds) (x y : ℕ) → IsWithin a x → IsWithin b y → (x ≡ y → ⊥) → AreKept (where_unequal a b) x y
unfolding where_unequal
unequal_kept a b x y wa wb h = kept_unless (both_single a b && a.lo == b.lo) _ _ _ (λ t. grind (arith, nat_tests))
    (λ t. (without_kept a b x y wa wb h, without_kept b a y x wb wa (λ e. h (omega arith))))

greater_kept : (a b : Bounds) (x y : ℕ) → IsWithin a x → IsWithin b y → y < x → AreKept (where_greater a b) x y
unfolding where_greater
greater_kept a b x y wa wb h = kept_unless (nat_le a.hi b.lo) _ _ _ (λ t. grind (arith, nat_tests))
    (λ t. (record { from = omega arith; to = omega arith }, record { from = omega arith; to = omega arith }))

at_least_kept : (a b : Bounds) (x y : ℕ) → IsWithin a x → IsWithin b y → y ≤ x → AreKept (where_at_least a b) x y
unfolding where_at_least
at_least_kept a b x y wa wb h = kept_unless (nat_lt a.hi b.lo) _ _ _ (λ t. grind (arith, nat_tests))
    (λ t. (record { from = omega arith; to = omega arith }, record { from = omega arith; to = omega arith }))

not_or : (s t : Bool) → (s ≡ true → ⊥) → (t ≡ true → ⊥) → (s || t) ≡ true → ⊥
not_or true t p q h = p refl
not_or false t p q h = q h

not_and : (s t : Bool) → (s ≡ true → t ≡ true → ⊥) → (s && t) ≡ true → ⊥
not_and true t p h = p refl h
not_and false t p h = absurd cc

-- the numbers of two ranges of one value each
one_pair : (a b : Bounds) (x y : ℕ) → IsWithin a x → IsWithin b y → both_single a b ≡ true → (a.lo ≡ x) × (b.lo ≡ y)
one_pair a b x y wa wb t = (grind (arith, nat_tests), grind (arith, nat_tests))

shared_kept : (a b : Bounds) (x y : ℕ) → IsWithin a x → IsWithin b y → (bit_and x y ≡ 0 → ⊥) → AreKept (where_bit_shared a b) x y
unfolding where_bit_shared
shared_kept a b x y wa wb h = kept_unless _ (a, b) x y
    (not_or (a.hi == 0 || b.hi == 0) _
    (not_or (a.hi == 0) _ (λ t. let e : a.hi ≡ 0 = grind (arith, nat_tests) in h (omega (arith, and_le_l x y)))
    (λ t. let e : b.hi ≡ 0 = grind (arith, nat_tests) in h (omega (arith, and_le_r x y))))
    (not_and (both_single a b) (bit_and a.lo b.lo == 0) (λ s t.
    let p = one_pair a b x y wa wb s in let e : bit_and a.lo b.lo ≡ 0 = grind (arith, nat_tests) in h (rw (p.0, p.1) at e))))
    (λ t. (wa, wb))

no_shared_kept : (a b : Bounds) (x y : ℕ) → IsWithin a x → IsWithin b y → bit_and x y ≡ 0 → AreKept (where_no_bit_shared a b) x y
unfolding where_no_bit_shared
no_shared_kept a b x y wa wb h = kept_unless _ (a, b) x y
    (not_and (both_single a b) _ (λ s t. let p = one_pair a b x y wa wb s in let e : bit_and a.lo b.lo ≡ 0 = rw (p.0, p.1) h in grind (arith, nat_tests)))
    (λ t. (wa, wb))

-- numbers that the condition compares as they are
pub record ArePlain (n : ℕ) (condition : Condition) (x y : ℕ) : Type 0 where
  pub left : x < limit n condition
  pub right : y < limit n condition

low_half : (n x : ℕ) → x < 2 ^ (n - 1) → x < 2 ^ n
low_half n x h = let le : 2 ^ (n - 1) ≤ 2 ^ n = pow-le-pow_right (lit< tt) (omega arith) in omega arith

-- a word without its sign bit
signed_as_is : (n x : ℕ) → x < 2 ^ (n - 1) → signed_value n (x % 2 ^ n) ≡ pos x
signed_as_is n x h = rw (mod-eq_of_lt (low_half n x h)) (grind (arith, nat_tests))

-- what a signed condition compares
pub signed_plain : (n : ℕ) (condition : Condition) (x : ℕ) → is_signed condition ≡ true → x < limit n condition → signed_value n (x % 2 ^ n) ≡ pos x
signed_plain n condition x s h = signed_as_is n x (grind (arith, nat_tests))

-- what a condition says of two numbers that it compares as they are
abbrev pub Says : Condition → ℕ → ℕ → Type 0
Says Eq x y = x ≡ y
Says Gt x y = y < x
Says Ge x y = y ≤ x
Says Set x y = bit_and x y ≡ 0 → ⊥
Says Ne x y = x ≡ y → ⊥
Says Sgt x y = y < x
Says Sge x y = y ≤ x
Says Lt x y = x < y
Says Le x y = x ≤ y
Says Slt x y = x < y
Says Sle x y = x ≤ y

words_say : (n : ℕ) (condition : Condition) (x y : ℕ) → is_signed condition ≡ false → comparison n condition x y ≡ true → Says condition x y
unfolding comparison
words_say n Eq x y u h = grind (arith, nat_tests)
words_say n Gt x y u h = grind (arith, nat_tests)
words_say n Ge x y u h = grind (arith, nat_tests)
words_say n Set x y u h = λ e. grind (arith, nat_tests)
words_say n Ne x y u h = λ e. grind (arith, nat_tests)
words_say n Sgt x y u h = absurd cc
words_say n Sge x y u h = absurd cc
words_say n Lt x y u h = grind (arith, nat_tests)
words_say n Le x y u h = grind (arith, nat_tests)
words_say n Slt x y u h = absurd cc
words_say n Sle x y u h = absurd cc

pub holds_says : (n : ℕ) (condition : Condition) (x y : ℕ) → ArePlain n condition x y → holds n condition x y ≡ true → Says condition x y
unfolding holds comparison
holds_says n Eq x y p h = words_say n Eq x y refl (rw (mod-eq_of_lt p.left, mod-eq_of_lt p.right) at h)
holds_says n Gt x y p h = words_say n Gt x y refl (rw (mod-eq_of_lt p.left, mod-eq_of_lt p.right) at h)
holds_says n Ge x y p h = words_say n Ge x y refl (rw (mod-eq_of_lt p.left, mod-eq_of_lt p.right) at h)
holds_says n Set x y p h = words_say n Set x y refl (rw (mod-eq_of_lt p.left, mod-eq_of_lt p.right) at h)
holds_says n Ne x y p h = words_say n Ne x y refl (rw (mod-eq_of_lt p.left, mod-eq_of_lt p.right) at h)
holds_says n Sgt x y p h = let l = signed_plain n Sgt x refl p.left in let r = signed_plain n Sgt y refl p.right in grind (arith, ints)
holds_says n Sge x y p h = let l = signed_plain n Sge x refl p.left in let r = signed_plain n Sge y refl p.right in grind (arith, ints)
holds_says n Lt x y p h = words_say n Lt x y refl (rw (mod-eq_of_lt p.left, mod-eq_of_lt p.right) at h)
holds_says n Le x y p h = words_say n Le x y refl (rw (mod-eq_of_lt p.left, mod-eq_of_lt p.right) at h)
holds_says n Slt x y p h = let l = signed_plain n Slt x refl p.left in let r = signed_plain n Slt y refl p.right in grind (arith, ints)
holds_says n Sle x y p h = let l = signed_plain n Sle x refl p.left in let r = signed_plain n Sle y refl p.right in grind (arith, ints)

said_kept : (condition : Condition) (a b : Bounds) (x y : ℕ) → IsWithin a x → IsWithin b y → Says condition x y → AreKept (where_holds condition a b) x y
unfolding where_holds
said_kept Eq a b x y wa wb h = equal_kept a b x y wa wb h
said_kept Gt a b x y wa wb h = greater_kept a b x y wa wb h
said_kept Ge a b x y wa wb h = at_least_kept a b x y wa wb h
said_kept Set a b x y wa wb h = shared_kept a b x y wa wb h
said_kept Ne a b x y wa wb h = unequal_kept a b x y wa wb h
said_kept Sgt a b x y wa wb h = greater_kept a b x y wa wb h
said_kept Sge a b x y wa wb h = at_least_kept a b x y wa wb h
said_kept Lt a b x y wa wb h = kept_exchange _ x y (greater_kept b a y x wb wa h)
said_kept Le a b x y wa wb h = kept_exchange _ x y (at_least_kept b a y x wb wa h)
said_kept Slt a b x y wa wb h = kept_exchange _ x y (greater_kept b a y x wb wa h)
said_kept Sle a b x y wa wb h = kept_exchange _ x y (at_least_kept b a y x wb wa h)

holds_kept : (n : ℕ) (condition : Condition) (a b : Bounds) (x y : ℕ) → IsWithin a x → IsWithin b y → ArePlain n condition x y → holds n condition x y ≡ true → AreKept (where_holds condition a b) x y
holds_kept n condition a b x y wa wb p h = said_kept condition a b x y wa wb (holds_says n condition x y p h)

-- the bit test fails
pub no_bit : (n x y : ℕ) → ArePlain n Set x y → holds n Set x y ≡ false → bit_and x y ≡ 0
unfolding holds comparison
no_bit n x y p h = let e = rw (mod-eq_of_lt p.left, mod-eq_of_lt p.right) at h in grind (arith, nat_tests)

-- where a condition fails, its opposite says
pub opposite_says : (n : ℕ) (condition other : Condition) (x y : ℕ) → limit n other ≡ limit n condition → holds n other x y ≡ not (holds n condition x y)
    → ArePlain n condition x y → holds n condition x y ≡ false → Says other x y
opposite_says n condition other x y e o p h = holds_says n other x y (record { left = rw e p.left; right = rw e p.right }) (rw (o, h) refl)

fails_kept : (n : ℕ) (condition : Condition) (a b : Bounds) (x y : ℕ) → IsWithin a x → IsWithin b y → ArePlain n condition x y → holds n condition x y ≡ false → AreKept (where_fails condition a b) x y
unfolding where_fails
fails_kept n Eq a b x y wa wb p h = said_kept Ne a b x y wa wb (opposite_says n Eq Ne x y refl (opposite_excludes Eq n x y) p h)
fails_kept n Gt a b x y wa wb p h = said_kept Le a b x y wa wb (opposite_says n Gt Le x y refl (opposite_excludes Gt n x y) p h)
fails_kept n Ge a b x y wa wb p h = said_kept Lt a b x y wa wb (opposite_says n Ge Lt x y refl (opposite_excludes Ge n x y) p h)
fails_kept n Set a b x y wa wb p h = no_shared_kept a b x y wa wb (no_bit n x y p h)
fails_kept n Ne a b x y wa wb p h = said_kept Eq a b x y wa wb (opposite_says n Ne Eq x y refl (opposite_excludes Ne n x y) p h)
fails_kept n Sgt a b x y wa wb p h = said_kept Sle a b x y wa wb (opposite_says n Sgt Sle x y refl (opposite_excludes Sgt n x y) p h)
fails_kept n Sge a b x y wa wb p h = said_kept Slt a b x y wa wb (opposite_says n Sge Slt x y refl (opposite_excludes Sge n x y) p h)
fails_kept n Lt a b x y wa wb p h = said_kept Ge a b x y wa wb (opposite_says n Lt Ge x y refl (opposite_excludes Lt n x y) p h)
fails_kept n Le a b x y wa wb p h = said_kept Gt a b x y wa wb (opposite_says n Le Gt x y refl (opposite_excludes Le n x y) p h)
fails_kept n Slt a b x y wa wb p h = said_kept Sge a b x y wa wb (opposite_says n Slt Sge x y refl (opposite_excludes Slt n x y) p h)
fails_kept n Sle a b x y wa wb p h = said_kept Sgt a b x y wa wb (opposite_says n Sle Sgt x y refl (opposite_excludes Sle n x y) p h)

along_kept : (n : ℕ) (condition : Condition) (taken : Bool) (a b : Bounds) (x y : ℕ) → IsWithin a x → IsWithin b y → ArePlain n condition x y → holds n condition x y ≡ taken → AreKept (along condition taken a b) x y
along_kept n condition true a b x y wa wb p h = holds_kept n condition a b x y wa wb p h
along_kept n condition false a b x y wa wb p h = fails_kept n condition a b x y wa wb p h

followed : (n : ℕ) (condition : Condition) (taken : Bool) (x y : ℕ) → holds n condition x y ≡ taken → is_followed n condition taken x y ≡ true
followed n condition true x y h = h
followed n condition false x y h = rw h refl

before_kept : (n : ℕ) (condition : Condition) (taken : Bool) (a b : Bounds) (x y : ℕ) → IsWithin a x → IsWithin b y → holds n condition x y ≡ taken → AreKept (as_before n condition taken a b) x y
unfolding as_before
before_kept n condition taken a b x y wa wb h = kept_unless _ (a, b) x y
    (not_and (both_single a b) _ (λ s t. let p = one_pair a b x y wa wb s in let g = followed n condition taken x y h in let w = rw (p.0, p.1, g) at t in absurd cc))
    (λ t. (wa, wb))

kept_if : (t : Bool) (r s : Option (Bounds × Bounds)) (x y : ℕ) → (t ≡ true → AreKept r x y) → (t ≡ false → AreKept s x y) → AreKept (if t then r else s) x y
kept_if true r s x y p q = p refl
kept_if false r s x y p q = q refl

plain_of : (n : ℕ) (condition : Condition) (a b : Bounds) (x y : ℕ) → IsWithin a x → IsWithin b y → are_below (limit n condition) a b ≡ true → ArePlain n condition x y
plain_of n condition a b x y wa wb t = record { left = grind (arith, nat_tests); right = grind (arith, nat_tests) }

pub all_kept : (n : ℕ) (condition : Condition) (taken : Bool) (a b : Bounds) (x y : ℕ) → IsWithin a x → IsWithin b y → holds n condition x y ≡ taken → AreKept (refinement n condition taken a b) x y
unfolding refinement
all_kept n condition taken a b x y wa wb h = kept_if (are_below (limit n condition) a b) _ _ x y
    (λ t. along_kept n condition taken a b x y wa wb (plain_of n condition a b x y wa wb t) h)
    (λ t. before_kept n condition taken a b x y wa wb h)

pub none_follow : (n : ℕ) (condition : Condition) (taken : Bool) (a b : Bounds) → refinement n condition taken a b ≡ None → (x y : ℕ) → IsWithin a x → IsWithin b y → holds n condition x y ≡ taken → ⊥
none_follow n condition taken a b e x y wa wb h = rw e at (all_kept n condition taken a b x y wa wb h)
