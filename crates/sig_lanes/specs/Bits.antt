-- Sets of bits as words of 64.
use Rattle.std.specs.Prelude.{◌≡◌, ℕ, ◌/◌, ◌%◌, ◌==◌, ◌<◌, Bool, List, IsTrue, map, slice_index_or}
use Rattle.std.specs.Int.{bit_at}

-- whether a bit is set: bit b is bit b mod 64 of word b / 64
unfoldable pub has_bit : List ℕ → ℕ → Bool
has_bit words bit = bit_at (slice_index_or words (bit / 64) 0) (bit % 64) == 1

-- some bit is set in both
abbrev pub Meet : List ℕ → List ℕ → Type 0
Meet a b = (bit : ℕ) × (bit < 1024) × IsTrue (has_bit a bit) × IsTrue (has_bit b bit)

-- signature j of a block: its word i is lane j of vector i
unfoldable pub signature_at : List (List ℕ) → ℕ → List ℕ
signature_at block j = map (λ vector. slice_index_or vector j 0) block

-- one of the first n words has bit k in both
abbrev pub SharePlace : List ℕ → List ℕ → ℕ → ℕ → Type 0
SharePlace a b n k = (i : ℕ) × (i < n) × (bit_at (slice_index_or a i 0) k ≡ 1) × (bit_at (slice_index_or b i 0) k ≡ 1)

-- each bit of the first 16 words of a is one of b
abbrev pub IsSubset : List ℕ → List ℕ → Type 0
IsSubset a b = (i k : ℕ) → i < 16 → bit_at (slice_index_or a i 0) k ≡ 1 → bit_at (slice_index_or b i 0) k ≡ 1
