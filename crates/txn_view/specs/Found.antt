-- A row that is found in a table: its key, and its bytes behind a reference.
use Rattle.std.specs.Prelude.{ℕ, List, Option, option_map}
use Rattle.std.specs.Borrow.{Bor}
use Rattle.schema.specs.Rows.{Key}

-- the key and the bytes, as definitions speak of them
abbrev pub row_found : ℕ → Option (ℕ × Bor (List ℕ)) → Option (Key × List ℕ)
row_found table = option_map (λ row. ((table, row.0), row.1.now))
