-- What each helper does to a state. A helper takes r1 to r5 and answers in r0; afterwards r1 to r5 hold nothing. None
-- where it can't be called: a table that is no number or outside the schema, a key, bound or code that is no number, a
-- buffer that isn't whole inside the stack, or, where it is read, of bytes that aren't known.
use Rattle.std.specs.Prelude.{ℕ, ◌%◌, ◌^◌, List, [], ◌∷◌, ◌++◌, drop, replicate, nat_le, is_some, if◌then◌else◌, Option, Some, None}
use Rattle.std.specs.Option.{option_map}
use Rattle.std.specs.FinMap.{get}
use Rattle.byteorder.specs.Endian.{little_bytes}
use Rattle.bpf_code.specs.declared.instruction.Register.TheVariants.{R1, R2, R3, R4, R5}
use Rattle.schema.specs.Schema.{Tables}
use Rattle.schema.specs.declared.look.Look.{Look}
use Rattle.schema.specs.Rows.{Key, row_at, after_write, with_write, count_in, first_in}
use Rattle.schema.specs.declared.helper.Helper.{Helper}
use Rattle.schema.specs.declared.helper.Helper.TheVariants.{RowGet, RowPut, RowDelete, RangeCount, RangeNext, Cancel}
use Rattle.bpf_semantics.specs.declared.value.Value.{Value}
use Rattle.bpf_semantics.specs.declared.value.Value.TheVariants.{Nothing, Number, Stack}
use Rattle.bpf_semantics.specs.State.{State, register, number}
use Rattle.bpf_semantics.specs.Memory.{◌>>=◌, stack_index, known_bytes, stack_with}

-- a table of the schema, and its width
pub record Table : Type 0 where
  pub table : ℕ
  pub width : ℕ

abbrev pub table_of : Tables → Value → Option Table
table_of tables v = do
  table ← number v
  width ← get tables table
  Some (record { table = table; width = width })

-- where a buffer of so many bytes begins in the stack; none where it isn't whole inside
abbrev pub buffer_of : Value → ℕ → Option ℕ
buffer_of (Stack place) width = stack_index place width
buffer_of _ width = None

-- r0 gets the answer, and r1 to r5 nothing
abbrev pub with_answer : ℕ → State → State
with_answer answer s = record s { registers = Number answer ∷ (replicate 5 Nothing ++ drop 6 s.registers) }

abbrev pub with_stack : List (Option ℕ) → State → State
with_stack stack s = record s { stack = stack }

-- ---- looks and writes

abbrev pub look_at : ℕ → ℕ → ℕ → Look
look_at table lo hi = record { table = table; lo = lo; hi = hi }

abbrev pub with_look : Look → State → State
with_look look s = record s { looks = s.looks ++ look ∷ [] }

-- a get looks at its key, unless the run put or removed it before
abbrev pub with_point_look : ℕ → ℕ → State → State
with_point_look table key s = if is_some (get s.writes (table, key)) then s else with_look (look_at table key key) s

-- a range looks from lo to the last key that its answer depends on; where lo is above hi nothing is looked at
abbrev pub with_range_look : ℕ → ℕ → ℕ → ℕ → State → State
with_range_look table lo hi last s = if nat_le lo hi then with_look (look_at table lo last) s else s

-- a put has bytes, a removal none
abbrev pub with_row_write : ℕ → ℕ → Option (List ℕ) → State → State
with_row_write table key write s = record s { rows = after_write (table, key) write s.rows; writes = with_write s.writes (table, key) write }

-- ---- the helpers

abbrev pub flag : {X : Type 0} → Option X → ℕ
flag None = 0
flag (Some _) = 1

-- what a row buffer gets: the row, or zeros
abbrev pub row_or_zeros : ℕ → Option (List ℕ) → List ℕ
row_or_zeros width None = replicate width 0
row_or_zeros width (Some bytes) = bytes

abbrev pub with_row_read : State → Table → ℕ → ℕ → Option (List ℕ) → State
with_row_read s t key buffer found =
    let stack = stack_with s.stack buffer (row_or_zeros t.width found) in
    with_answer (flag found) (with_point_look t.table key (with_stack stack s))

unfoldable pub row_get : State → Table → ℕ → Value → Option State
row_get s t key to = do
  buffer ← buffer_of to t.width
  Some (with_row_read s t key buffer (row_at s.rows t.table key))

unfoldable pub row_put : State → Table → ℕ → Value → Option State
row_put s t key from = do
  buffer ← buffer_of from t.width
  bytes ← known_bytes s.stack buffer t.width
  Some (with_answer 0 (with_row_write t.table key (Some bytes) s))

abbrev pub row_delete : State → Table → ℕ → State
row_delete s t key = with_answer 0 (with_row_write t.table key None s)

-- a count looks at all of lo to hi
abbrev pub range_count : State → Table → ℕ → ℕ → State
range_count s t lo hi = with_answer (count_in (look_at t.table lo hi) s.rows % 2 ^ 64) (with_range_look t.table lo hi hi s)

-- the found key, or hi where there is none
abbrev pub last_seen : ℕ → Option (Key × List ℕ) → ℕ
last_seen hi None = hi
last_seen hi (Some found) = found.0.1

abbrev pub key_or_zeros : Option (Key × List ℕ) → List ℕ
key_or_zeros None = replicate 8 0
key_or_zeros (Some found) = little_bytes 8 found.0.1

abbrev pub row_of : Option (Key × List ℕ) → Option (List ℕ)
row_of = option_map (λ found. found.1)

-- the key buffer is written before the row buffer
abbrev pub with_next_read : State → Table → ℕ → ℕ → ℕ → ℕ → Option (Key × List ℕ) → State
with_next_read s t lo hi key_buffer row_buffer found =
    let keyed = stack_with s.stack key_buffer (key_or_zeros found) in
    let stack = stack_with keyed row_buffer (row_or_zeros t.width (row_of found)) in
    with_answer (flag found) (with_range_look t.table lo hi (last_seen hi found) (with_stack stack s))

unfoldable pub range_next : State → Table → ℕ → ℕ → Value → Value → Option State
range_next s t lo hi key_to row_to = do
  key_buffer ← buffer_of key_to 8
  row_buffer ← buffer_of row_to t.width
  Some (with_next_read s t lo hi key_buffer row_buffer (first_in (look_at t.table lo hi) s.rows))

abbrev pub cancel : State → ℕ → State
cancel s code = with_answer 0 (record s { cancel_code = Some code })

-- ---- a call, by its arguments

unfoldable pub state_after_call : Tables → Helper → State → Option State
state_after_call tables RowGet s = do
  t ← table_of tables (register s R1)
  key ← number (register s R2)
  row_get s t key (register s R3)
state_after_call tables RowPut s = do
  t ← table_of tables (register s R1)
  key ← number (register s R2)
  row_put s t key (register s R3)
state_after_call tables RowDelete s = do
  t ← table_of tables (register s R1)
  key ← number (register s R2)
  Some (row_delete s t key)
state_after_call tables RangeCount s = do
  t ← table_of tables (register s R1)
  lo ← number (register s R2)
  hi ← number (register s R3)
  Some (range_count s t lo hi)
state_after_call tables RangeNext s = do
  t ← table_of tables (register s R1)
  lo ← number (register s R2)
  hi ← number (register s R3)
  range_next s t lo hi (register s R4) (register s R5)
state_after_call tables Cancel s = do
  code ← number (register s R1)
  Some (cancel s code)
