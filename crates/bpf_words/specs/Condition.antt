-- Where the conditions of the jumps hold (RFC 9669 section 4.3), on n bits, where n is 64 or 32.
use Rattle.std.specs.Prelude.{ℕ, ◌%◌, ◌^◌, Bool, not, ◌==◌, nat_lt, nat_le, int_lt, int_le, bit_and, Option, Some, None}
use Rattle.bpf_words.specs.Word.{signed_value}
use Rattle.bpf_words.specs.declared.condition.Condition.{Condition}
use Rattle.bpf_words.specs.declared.condition.Condition.TheVariants.{Eq, Gt, Ge, Set, Ne, Sgt, Sge, Lt, Le, Slt, Sle}

-- a condition on two words (RFC 9669 section 4.3)
unfoldable pub comparison : ℕ → Condition → ℕ → ℕ → Bool
comparison n Eq a b = a == b
comparison n Gt a b = nat_lt b a
comparison n Ge a b = nat_le b a
comparison n Set a b = not (bit_and a b == 0)
comparison n Ne a b = not (a == b)
comparison n Sgt a b = int_lt (signed_value n b) (signed_value n a)
comparison n Sge a b = int_le (signed_value n b) (signed_value n a)
comparison n Lt a b = nat_lt a b
comparison n Le a b = nat_le a b
comparison n Slt a b = int_lt (signed_value n a) (signed_value n b)
comparison n Sle a b = int_le (signed_value n a) (signed_value n b)

-- whether a condition holds of the low n bits of the destination's value a and the source's value b
-- (RFC 9669 section 4.3)
unfoldable pub holds : ℕ → Condition → ℕ → ℕ → Bool
holds n condition a b = comparison n condition (a % 2 ^ n) (b % 2 ^ n)

-- the condition that holds just where this one doesn't. `Set` has none
abbrev pub opposite : Condition → Option Condition
opposite Eq = Some Ne
opposite Gt = Some Le
opposite Ge = Some Lt
opposite Set = None
opposite Ne = Some Eq
opposite Sgt = Some Sle
opposite Sge = Some Slt
opposite Lt = Some Ge
opposite Le = Some Gt
opposite Slt = Some Sge
opposite Sle = Some Sgt
