-- What is known of a condition's operands along an edge of its jump (RFC 9669 section 4.3): the ranges that the
-- destination a and the source b have there, from those before, or None where the edge is never followed. An edge
-- is a condition and whether its jump is taken. It is followed where the condition holds just as `taken` says, of
-- the low n bits, where n is 64 or 32.
use Rattle.std.specs.Prelude.{ℕ, ◌+◌, ◌-◌, ◌^◌, nat_lt, nat_le, ◌==◌, ◌&&◌, ◌||◌, Bool, true, false, not, min, max, bit_and, if◌then◌else◌, Option, Some, None}
use Rattle.std.specs.Option.{option_map, option_map_or}
use Rattle.bpf_words.specs.Condition.{holds, opposite}
use Rattle.bpf_words.specs.declared.condition.Condition.{Condition}
use Rattle.bpf_words.specs.declared.condition.Condition.TheVariants.{Eq, Gt, Ge, Set, Ne, Sgt, Sge, Lt, Le, Slt, Sle}
use Rattle.interval.specs.Range.{Bounds, from_to, is_single}

-- these ranges, or None where the test holds
abbrev pub unless : Bool → Bounds × Bounds → Option (Bounds × Bounds)
unless never ranges = if never then None else Some ranges

-- what was said of b and a, of a and b
abbrev pub exchange : Option (Bounds × Bounds) → Option (Bounds × Bounds)
exchange ranges = option_map (λ r. (r.1, r.0)) ranges

abbrev pub both_single : Bounds → Bounds → Bool
both_single a b = is_single a && is_single b

-- a range without its end that is the other's one value
abbrev pub without : Bounds → Bounds → Bounds
without a b =
    if not (is_single b) then a else
    if a.lo == b.lo then from_to (a.lo + 1) a.hi else
    if a.hi == b.lo then from_to a.lo (a.hi - 1) else
    a

-- the numbers of both
unfoldable pub where_equal : Bounds → Bounds → Option (Bounds × Bounds)
where_equal a b = let both = from_to (max a.lo b.lo) (min a.hi b.hi) in unless (nat_lt both.hi both.lo) (both, both)

unfoldable pub where_unequal : Bounds → Bounds → Option (Bounds × Bounds)
where_unequal a b = unless (both_single a b && a.lo == b.lo) (without a b, without b a)

unfoldable pub where_greater : Bounds → Bounds → Option (Bounds × Bounds)
where_greater a b = unless (nat_le a.hi b.lo) (from_to (max a.lo (b.lo + 1)) a.hi, from_to b.lo (min b.hi (a.hi - 1)))

unfoldable pub where_at_least : Bounds → Bounds → Option (Bounds × Bounds)
where_at_least a b = unless (nat_lt a.hi b.lo) (from_to (max a.lo b.lo) a.hi, from_to b.lo (min b.hi a.hi))

-- some bit is set in both
unfoldable pub where_bit_shared : Bounds → Bounds → Option (Bounds × Bounds)
where_bit_shared a b = unless (a.hi == 0 || b.hi == 0 || (both_single a b && bit_and a.lo b.lo == 0)) (a, b)

unfoldable pub where_no_bit_shared : Bounds → Bounds → Option (Bounds × Bounds)
where_no_bit_shared a b = unless (both_single a b && not (bit_and a.lo b.lo == 0)) (a, b)

-- the edge that is taken. Numbers without the sign bit compare alike, signed or not
unfoldable pub where_holds : Condition → Bounds → Bounds → Option (Bounds × Bounds)
where_holds Eq a b = where_equal a b
where_holds Ne a b = where_unequal a b
where_holds Gt a b = where_greater a b
where_holds Ge a b = where_at_least a b
where_holds Lt a b = exchange (where_greater b a)
where_holds Le a b = exchange (where_at_least b a)
where_holds Sgt a b = where_greater a b
where_holds Sge a b = where_at_least a b
where_holds Slt a b = exchange (where_greater b a)
where_holds Sle a b = exchange (where_at_least b a)
where_holds Set a b = where_bit_shared a b

-- the edge that isn't: the opposite condition holds. The bit test has none
unfoldable pub where_fails : Condition → Bounds → Bounds → Option (Bounds × Bounds)
where_fails condition a b = option_map_or (λ other. where_holds other a b) (opposite condition) (where_no_bit_shared a b)

-- where the condition compares all numbers of both ranges as they are
abbrev pub along : Condition → Bool → Bounds → Bounds → Option (Bounds × Bounds)
along condition taken a b = if taken then where_holds condition a b else where_fails condition a b

abbrev pub is_signed : Condition → Bool
is_signed Sgt = true
is_signed Sge = true
is_signed Slt = true
is_signed Sle = true
is_signed _ = false

-- a condition on n bits compares numbers below this one as they are
abbrev pub limit : ℕ → Condition → ℕ
limit n condition = if is_signed condition then 2 ^ (n - 1) else 2 ^ n

abbrev pub are_below : ℕ → Bounds → Bounds → Bool
are_below m a b = nat_lt a.hi m && nat_lt b.hi m

-- whether two numbers follow the edge
abbrev pub is_followed : ℕ → Condition → Bool → ℕ → ℕ → Bool
is_followed n condition taken x y = if taken then holds n condition x y else not (holds n condition x y)

-- nothing is learnt, but from one value each that doesn't follow the edge
unfoldable pub as_before : ℕ → Condition → Bool → Bounds → Bounds → Option (Bounds × Bounds)
as_before n condition taken a b = unless (both_single a b && not (is_followed n condition taken a.lo b.lo)) (a, b)

unfoldable pub refinement : ℕ → Condition → Bool → Bounds → Bounds → Option (Bounds × Bounds)
refinement n condition taken a b =
    if are_below (limit n condition) a b then along condition taken a b else as_before n condition taken a b
