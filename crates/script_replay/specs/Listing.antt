-- The rows of a map one after another, in the order of tables and keys.
use Rattle.std.specs.Prelude.{◌≡◌, ℕ, ◌<◌, ◌≤◌, ◌^◌, ◌⊎◌, List, [], ◌∷◌, ◌++◌, length, map, IsSome, T, Option, Result, MatchResult}
use Rattle.std.specs.List.{concat}
use Rattle.std.specs.FinMap.{get, entries, is_sorted}
use Rattle.byte_output.specs.declared.paged.PagedOutput.{PagedOutput}
use Rattle.byte_output.specs.Pending.{Passes}
use Rattle.schema.specs.declared.limits.TheConstants.{MAX_TABLE}
use Rattle.schema.specs.Rows.{Key, key_cmp, Rows}
use Rattle.script_replay.specs.Printed.{row_text}
use Rattle.script_replay.specs.Acting.{PassesBeginning}

-- a key comes before another, or doesn't
abbrev pub IsBefore : Key → Key → Type 0
IsBefore k p = (k.0 < p.0) ⊎ ((k.0 ≡ p.0) × (k.1 < p.1))

abbrev pub IsBehind : Key → Key → Type 0
IsBehind k p = (p.0 < k.0) ⊎ ((p.0 ≡ k.0) × (p.1 ≤ k.1))

-- the rows of the tables that may be numbered, at keys of 64 bits
abbrev pub IsRowKey : Key → Type 0
IsRowKey k = (1 ≤ k.0) × (k.0 ≤ MAX_TABLE) × (k.1 < 2 ^ 64)

abbrev pub HasRowKeys : Rows → Type 0
HasRowKeys rows = (k : Key) → IsSome (get rows k) → IsRowKey k

-- it holds of the key of each of the rows
abbrev pub Each : (Key → Type 0) → List (Key × List ℕ) → Type 0
Each P [] = Unit {0}
Each P (row ∷ rows) = P row.0 × Each P rows

-- the listed rows are all those before a key
pub record AreBefore (p : Key) (listed : List (Key × List ℕ)) (rows : Rows) : Type 0 where
  pub others : List (Key × List ℕ)
  pub whole : listed ++ others ≡ entries rows
  pub before : Each (λ k. IsBefore k p) listed
  pub behind : Each (λ k. IsBehind k p) others
  pub rise : T (is_sorted key_cmp others)

abbrev pub lines_of : List (Key × List ℕ) → List ℕ
lines_of listed = concat (map row_text listed)

-- at `Ok` so many more rows are listed, up to a key, and given; at `Err` a beginning of some that follow
abbrev pub ListsMore : {W E : Type 0} → (W → Option (List ℕ)) → PagedOutput W → PagedOutput W → Rows → Key → List (Key × List ℕ) → Result ℕ E → Type 0
ListsMore contents old new rows p listed result = MatchResult result
    (λ n. (more : List (Key × List ℕ)) × (n ≡ length more) × AreBefore p (listed ++ more) rows × Passes contents old new (lines_of more))
    (λ _. (more others : List (Key × List ℕ)) × ((listed ++ more) ++ others ≡ entries rows) × PassesBeginning contents old new (lines_of more))

-- at `Ok` all rows are given, so many, at `Err` a beginning of them
abbrev pub GivesAll : {W E : Type 0} → (W → Option (List ℕ)) → PagedOutput W → PagedOutput W → Rows → Result ℕ E → Type 0
GivesAll contents old new rows result = MatchResult result
    (λ n. (n ≡ length (entries rows)) × Passes contents old new (lines_of (entries rows)))
    (λ _. PassesBeginning contents old new (lines_of (entries rows)))
