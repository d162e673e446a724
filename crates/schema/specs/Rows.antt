-- The words for rows: the plain map of rows, what a call looks at, and what it writes.
use Rattle.std.specs.Prelude.{◌≡◌, ℕ, ◌+◌, ◌<◌, ◌≤◌, ◌^◌, Bool, false, ◌==◌, ◌&&◌, ◌||◌, not, nat_le, if◌then◌else◌, IsTrue, All, List, [], ◌∷◌, length, Option, Some, None, IsSome, slice_get}
use Rattle.std.specs.List.{list_all, list_any}
use Rattle.std.specs.declared.cmp.Ordering.{Ordering}
use Rattle.std.specs.Ordering.{nat_cmp, ordering_then, is_lt}
use Rattle.std.specs.FinMap.{FinMap, IsAntisymmetric, nat_cmp-IsAntisymmetric, empty, get, contains_key, insert, remove, retain_keys, len, keys, entries}
use Rattle.std.specs.Cmp.{IsTotalOrder, nat_cmp_total, on_total, then_total}
use Rattle.std.proofs.lemmas.Map.Lookups.{exact_pairs}
use Rattle.schema.specs.declared.look.Look.{Look}
use Rattle.schema.specs.Schema.{Tables}

-- where a row stands: the number of its table, and its key
abbrev pub Key : Type 0
Key = ℕ × ℕ

-- by table, and then by key
abbrev pub key_cmp : Key → Key → Ordering
key_cmp a b = ordering_then (nat_cmp a.0 b.0) (nat_cmp a.1 b.1)

pub key_cmp_total : IsTotalOrder key_cmp
key_cmp_total = then_total (on_total (λ k. k.0) nat_cmp_total) (on_total (λ k. k.1) nat_cmp_total)

pub key_cmp-IsAntisymmetric : IsAntisymmetric key_cmp
key_cmp-IsAntisymmetric = exact_pairs nat_cmp nat_cmp nat_cmp-IsAntisymmetric nat_cmp-IsAntisymmetric

-- the plain map of rows, each the list of its bytes
abbrev pub Rows : Type 0
Rows = FinMap key_cmp (List ℕ)

-- the row of a table at a key, where there is one
abbrev pub row_at : Rows → ℕ → ℕ → Option (List ℕ)
row_at rows table key = get rows (table, key)

-- a key at which a row may stand: of one of the schema's tables, and a number of 64 bits
pub record IsKey (tables : Tables) (k : Key) : Type 0 where
  pub table_is : IsSome (get tables k.0)
  pub key_fits : k.1 < 2 ^ 64

-- bytes that may stand there as a row: as many as the table is wide
pub record IsRow (tables : Tables) (table key : ℕ) (bytes : List ℕ) : Type 0 where
  pub at_key : IsKey tables (table, key)
  pub width : get tables table ≡ Some (length bytes)
  pub each_byte : All (λ b. b < 256) bytes

-- each row is one of the schema's
abbrev pub AreRows : Tables → Rows → Type 0
AreRows tables rows = (table key : ℕ) (bytes : List ℕ) → row_at rows table key ≡ Some bytes → IsRow tables table key bytes

-- whether a key is behind those of all rows, in the order of tables and keys
abbrev pub is_behind : Rows → Key → Bool
is_behind rows key = list_all (λ k. is_lt (key_cmp k key)) (keys rows)

-- ---- looks

-- whether a key is one that was looked at: of the look's table, from lo to hi, both included
abbrev pub covers : Look → Key → Bool
covers look k = (look.table == k.0) && nat_le look.lo k.1 && nat_le k.1 look.hi

-- whether a key lies in one of the looks
abbrev pub any_covers : List Look → Key → Bool
any_covers [] k = false
any_covers (look ∷ looks) k = covers look k || any_covers looks k

-- the part of a look up to one of its keys, and the part above it
abbrev pub low_part : Look → ℕ → Look
low_part look key = record look { hi = key }

abbrev pub high_part : Look → ℕ → Look
high_part look key = record look { lo = key + 1 }

-- the rows that a look covers
abbrev pub rows_in : Look → Rows → Rows
rows_in look rows = retain_keys rows (covers look)

-- how many they are
abbrev pub count_in : Look → Rows → ℕ
count_in look rows = len (rows_in look rows)

-- the one of the least key, where there is one
abbrev pub first_in : Look → Rows → Option (Key × List ℕ)
first_in look rows = slice_get (entries (rows_in look rows)) 0

-- the row of the least key that a look covers
pub record IsFirst (look : Look) (rows : Rows) (k : Key) (bytes : List ℕ) : Type 0 where
  pub covered : IsTrue (covers look k)
  pub stands : get rows k ≡ Some bytes
  pub least : (q : Key) → IsTrue (covers look q) → IsSome (get rows q) → k.1 ≤ q.1

-- no row stands where a look covers
abbrev pub IsVacant : Look → Rows → Type 0
IsVacant look rows = (k : Key) → IsTrue (covers look k) → get rows k ≡ None

-- two maps have the same at each key that passes
abbrev pub AgreeOn : (Key → Bool) → Rows → Rows → Type 0
AgreeOn passes m n = (k : Key) → IsTrue (passes k) → get m k ≡ get n k

-- ---- writes

-- for each key that was written the last write: the row's bytes, or None where it was removed
abbrev pub Writes : Type 0
Writes = FinMap key_cmp (Option (List ℕ))

-- the writes, and this one after them
abbrev pub with_write : Writes → Key → Option (List ℕ) → Writes
with_write writes k write = insert writes k write

-- the rows after one write: a put has bytes, a removal none
abbrev pub after_write : Key → Option (List ℕ) → Rows → Rows
after_write k (Some bytes) rows = insert rows k bytes
after_write k None rows = remove rows k

-- the rows after one write at each of these keys
abbrev pub after_write_list : List (Key × Option (List ℕ)) → Rows → Rows
after_write_list [] rows = rows
after_write_list (write ∷ writes) rows = after_write write.0 write.1 (after_write_list writes rows)

-- the rows after the writes
abbrev pub after_writes : Writes → Rows → Rows
after_writes writes rows = after_write_list (entries writes) rows

-- a write that may be made there: of a put the bytes are a row, and a removal is at one of the schema's keys
abbrev pub IsWrite : Tables → Key → Option (List ℕ) → Type 0
IsWrite tables k (Some bytes) = IsRow tables k.0 k.1 bytes
IsWrite tables k None = IsKey tables k

-- each write is one of the schema's
abbrev pub AreWrites : Tables → Writes → Type 0
AreWrites tables writes = (k : Key) (write : Option (List ℕ)) → get writes k ≡ Some write → IsWrite tables k write

-- ---- writes over rows and looks

-- the rows that are put
abbrev pub puts : Writes → Rows
puts writes = after_writes writes empty

-- the rows that stand at written keys, and those at all other keys
abbrev pub rows_under : Writes → Rows → Rows
rows_under writes rows = retain_keys rows (contains_key writes)

abbrev pub rows_elsewhere : Writes → Rows → Rows
rows_elsewhere writes rows = retain_keys rows (λ k. not (contains_key writes k))

-- of two rows of one table, where they are there, that of the lesser key
abbrev pub lesser_row : Option (Key × List ℕ) → Option (Key × List ℕ) → Option (Key × List ℕ)
lesser_row None b = b
lesser_row (Some a) None = Some a
lesser_row (Some a) (Some b) = if nat_le a.0.1 b.0.1 then Some a else Some b

-- whether a written key, put or removed, lies in one of the looks
abbrev pub shares_key : List Look → Writes → Bool
shares_key looks writes = list_any (any_covers looks) (keys writes)
