-- Lists of what stands at keys.
use Rattle.std.specs.Prelude.{◌≡◌, ℕ, List}
use Rattle.std.specs.List.{fold}
use Rattle.std.specs.FinMap.{empty, insert, entries, from_entries}
use Rattle.schema.specs.Rows.{Rows, Key, key_cmp}

-- the rows of a list, put one after another
abbrev pub rows_of : List (Key × List ℕ) → Rows
rows_of = fold (λ rows row. insert rows row.0 row.1) empty

-- the list of a map, by tables and keys
abbrev pub AreInOrder : {V : Type 0} → List (Key × V) → Type 0
AreInOrder es = entries (from_entries {R = key_cmp} es) ≡ es
