-- The lines of a script, their fields, and the values of fields.
use Rattle.std.specs.Prelude.{ℕ, ◌==◌, nat_le, Bool, ◌&&◌, ◌||◌, if◌then◌else◌}
use Rattle.std.specs.Prelude.{List, [], ◌∷◌, length, slice_index, codes, Option, Some, None}
use Rattle.std.specs.List.{onto_first, slice_split, list_all}
use Rattle.std.specs.Str.{bytes_eq}
use Rattle.std.specs.Str.Parse.{digits_value}
use Rattle.std.specs.Fmt.{decimal}
use Rattle.std.specs.Result.{result_ok}
use Rattle.hex.specs.Hex.{decode_of}

-- the lines, without the LF at their ends, which the last may lack
abbrev pub lines_of : List ℕ → List (List ℕ)
lines_of [] = []
lines_of (b ∷ bytes) = if b == 10 then [] ∷ lines_of bytes else onto_first b (lines_of bytes)

-- the most bytes of a line
abbrev pub max_line : ℕ
max_line = 70000

-- printable ASCII
abbrev pub is_printable : ℕ → Bool
is_printable b = nat_le 0x20 b && nat_le b 0x7e

-- a line that may have so many bytes
abbrev pub is_readable : ℕ → List ℕ → Bool
is_readable most line = nat_le (length line) most && list_all is_printable line

-- an empty line, or a comment
abbrev pub is_skipped : List ℕ → Bool
is_skipped line = length line == 0 || slice_index line 0 == 35

-- what stands between the spaces
abbrev pub fields_of : List ℕ → List (List ℕ)
fields_of line = slice_split (λ b. b == 32) line

-- the number from least to most whose decimal text the field is: so it has neither sign nor leading zero
unfoldable pub number_of : ℕ → ℕ → List ℕ → Option ℕ
number_of least most field =
    let n = digits_value 10 field in
    if bytes_eq field (decimal n) && (nat_le least n && nat_le n most) then Some n else None

-- numbers of so many bits
abbrev pub u8_of : List ℕ → Option ℕ
u8_of field = number_of 0 255 field

abbrev pub u16_of : List ℕ → Option ℕ
u16_of field = number_of 0 65535 field

abbrev pub u32_of : List ℕ → Option ℕ
u32_of field = number_of 0 4294967295 field

abbrev pub u64_of : List ℕ → Option ℕ
u64_of field = number_of 0 18446744073709551615 field

-- how many: at least one
abbrev pub count_of : List ℕ → Option ℕ
count_of field = number_of 1 4294967295 field

-- bytes, at least one, in hex digits of either case; none where the field is `-`
unfoldable pub bytes_of_hex : List ℕ → Option (List ℕ)
bytes_of_hex field =
    if bytes_eq field (codes "-") then Some []
    else if length field == 0 then None
    else result_ok (decode_of field)
