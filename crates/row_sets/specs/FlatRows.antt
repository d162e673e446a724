-- Rows whose bytes stand one behind another.
use Rattle.std.specs.Prelude.{◌≡◌, ℕ, ◌+◌, List, [], ◌∷◌, length, take, drop}
use Rattle.schema.specs.Rows.{Key}

abbrev pub Row : Type 0
Row = Key × List ℕ

-- by the keys, the number of each row's bytes, and all bytes
abbrev pub rows_of : List Key → List ℕ → List ℕ → List Row
rows_of (key ∷ keys) (count ∷ lengths) bytes = (key, take count bytes) ∷ rows_of keys lengths (drop count bytes)
rows_of _ _ _ = []

abbrev pub total : List ℕ → ℕ
total [] = 0
total (count ∷ lengths) = count + total lengths

-- each row has its bytes, and no others are there
pub record AreWhole (keys : List Key) (lengths bytes : List ℕ) : Type 0 where
  pub counted : length lengths ≡ length keys
  pub all : total lengths ≡ length bytes
