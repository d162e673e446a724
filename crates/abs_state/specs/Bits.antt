-- A set of the stack's bytes in eight words.
use Rattle.std.specs.Prelude.{ℕ, ◌/◌, ◌%◌, ◌==◌, Bool, List, map, slice_index_or}
use Rattle.std.specs.Int.{bit_at}
use Rattle.std.specs.List.{range_with_len}

-- byte b is in it where bit b mod 64 of word b / 64 is set
abbrev pub has_bit : List ℕ → ℕ → Bool
has_bit words b = bit_at (slice_index_or words (b / 64) 0) (b % 64) == 1

-- whether each of the 512 bytes is in it
unfoldable pub bits_of : List ℕ → List Bool
bits_of words = map (has_bit words) (range_with_len 0 512)
