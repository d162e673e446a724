-- Numbers and tables as the words of a command line give them.
use Rattle.std.specs.Prelude.{ℕ, ◌==◌, ◌&&◌, not, nat_lt, nat_le, if◌then◌else◌, Bool, List, length, slice_index, Option, Some, None}
use Rattle.std.specs.Option.{option_and_then, option_map}
use Rattle.std.specs.List.{list_all, before_first, after_first}
use Rattle.std.specs.Char.{digit_value}
use Rattle.std.specs.Str.Parse.{digits_value}
use Rattle.schema.specs.declared.limits.TheConstants.{MAX_TABLE, MAX_WIDTH}

-- one decimal digit or more, and nothing else
abbrev pub is_numeral : List ℕ → Bool
is_numeral text = nat_lt 0 (length text) && list_all (λ c. nat_lt (digit_value c) 10) text

-- a zero in front of something
abbrev pub has_leading_zero : List ℕ → Bool
has_leading_zero text = nat_lt 1 (length text) && (slice_index text 0 == 48)

-- the number that decimal digits write, without sign and without leading zero
abbrev pub numeral_value : List ℕ → Option ℕ
numeral_value text = if is_numeral text && not (has_leading_zero text) then Some (digits_value 10 text) else None

abbrev pub within : ℕ → ℕ → Option ℕ → Option ℕ
within lo hi None = None
within lo hi (Some n) = if nat_le lo n && nat_le n hi then Some n else None

-- the same, where it is from lo to hi
abbrev pub number_in : ℕ → ℕ → List ℕ → Option ℕ
number_in lo hi text = within lo hi (numeral_value text)

abbrev pub is_colon : ℕ → Bool
is_colon c = c == 58

-- `T:W`: a table's number, 1 to 64, and the width of its rows, 1 to 128, round the first colon
abbrev pub table_word : List ℕ → Option (ℕ × ℕ)
table_word text = option_and_then (λ table. option_map (λ width. (table, width)) (number_in 1 MAX_WIDTH (after_first is_colon text)))
    (number_in 1 MAX_TABLE (before_first is_colon text))
