-- The filter in front of exact comparisons (this product's own): each key sets one of 1,024 bits, so sets that share a
-- key share a bit.
use Rattle.std.specs.Prelude.{ℕ, ◌+◌, ◌-◌, ◌*◌, ◌/◌, ◌%◌, ◌^◌, ◌==◌, nat_lt, Bool, if◌then◌else◌, List}
use Rattle.std.specs.List.{list_any, range_with_len}
use Rattle.std.specs.FinMap.{keys}
use Rattle.schema.specs.declared.look.Look.{Look}
use Rattle.schema.specs.Rows.{Key, Writes}

-- the bit of a key: the upper 10 bits of a 64-bit mix of table and key
unfoldable pub bit_of : Key → ℕ
bit_of k = ((k.1 * 0x9E3779B97F4A7C15 + k.0 * 0xC2B2AE3D27D4EB4F) % 2 ^ 64) / 2 ^ 54

-- how many keys a look covers
abbrev pub key_count : Look → ℕ
key_count look = look.hi + 1 - look.lo

-- a look of at most 16 keys sets the bit of each, a longer one all 1,024
abbrev pub look_sets_bit : ℕ → Look → Bool
look_sets_bit bit look =
    if nat_lt 16 (key_count look) then nat_lt bit 1024
    else list_any (λ key. bit_of (look.table, key) == bit) (range_with_len look.lo (key_count look))

abbrev pub looks_set_bit : List Look → ℕ → Bool
looks_set_bit looks bit = list_any (look_sets_bit bit) looks

-- each written key, put or removed, sets its bit
abbrev pub writes_set_bit : Writes → ℕ → Bool
writes_set_bit writes bit = list_any (λ k. bit_of k == bit) (keys writes)

-- whether the bit of a written key is one that the looks set
abbrev pub shares_bit : List Look → Writes → Bool
shares_bit looks writes = list_any (λ k. looks_set_bit looks (bit_of k)) (keys writes)
