-- Runs on rows of the schema and arguments of bytes stay in states that fit: helpers, steps and runs.
use Rattle.std.proofs.Common.{◌≡◌, ◌≢◌, ℕ, zero, suc, ℤ, pos, negsuc, Bool, true, false, cond, ◌+◌, ◌^◌, ◌<◌, ◌≤◌, List, [], ◌∷◌, ◌++◌, length, drop, Option, Some, None, refl, sym, ap, subst, ◌∙◌, arith, get_or}
use Rattle.std.specs.Prelude.{nat_le, is_some, IsSome, All, replicate}
use Rattle.std.specs.FinMap.{get}
use Rattle.std.proofs.lemmas.Bool.Decides.{nat_tests}
use Rattle.std.proofs.lemmas.List.{length-drop, length-append, length-set, length-replicate, get_or-set_other, get_or-drop, get_or-append-add}
use Rattle.std.proofs.lemmas.List.Elements.{All-drop, All-append, All-set, All-replicate, All-get_or, All-nil, All-cons}
use Rattle.byteorder.specs.Endian.{little_bytes}
use Rattle.bpf_words.specs.declared.operation.Operation.TheVariants.{Neg, Movsx}
use Rattle.bpf_words.specs.declared.operation.ByteOrder.{ByteOrder}
use Rattle.bpf_words.specs.declared.operation.EndWidth.{EndWidth}
use Rattle.bpf_words.specs.declared.operation.EndWidth.TheVariants.{Low16, Low32, Low64}
use Rattle.bpf_words.specs.End.{end_value}
use Rattle.bpf_words.specs.Condition.{holds}
use Rattle.bpf_words.proofs.Words.{ended_below}
use Rattle.bpf_code.specs.declared.instruction.Register.{Register}
use Rattle.bpf_code.specs.declared.instruction.Register.TheVariants.{R0, R1, R2, R3, R4, R5, R6, R7, R8, R9, R10}
use Rattle.bpf_code.specs.declared.instruction.Source.{Source}
use Rattle.bpf_code.specs.declared.instruction.Source.TheVariants as source
use Rattle.bpf_code.specs.declared.instruction.Instruction.{Instruction}
use Rattle.bpf_code.specs.declared.instruction.Instruction.TheVariants.{LoadWide, Load, StoreImmediate, StoreRegister, Arithmetic, Negate, MoveSignExtended, End, Jump, LongJump, Branch, Call, Exit}
use Rattle.bpf_code.specs.Register.{number_of}
use Rattle.bpf_code.specs.Sizes.{size_bytes, load_bytes, width_bits, extension_width}
use Rattle.bpf_code.specs.Program.{Program, IsInRange, AllInRange}
use Rattle.std.proofs.lemmas.Int.{ints}
use Rattle.std.specs.Int.{w64, cast_unsigned}
use Rattle.bpf_code.proofs.RangeLemmas.{range_at}
use Rattle.schema.specs.Schema.{Tables}
use Rattle.schema.specs.declared.look.Look.{Look}
use Rattle.schema.specs.Rows.{Key, Rows, IsKey, IsRow, AreRows, row_at, first_in}
use Rattle.schema.specs.Helper.{helper_of}
use Rattle.schema.specs.declared.helper.Helper.{Helper}
use Rattle.schema.specs.declared.helper.Helper.TheVariants.{RowGet, RowPut, RowDelete, RangeCount, RangeNext, Cancel}
use Rattle.schema.proofs.RowsLemmas.{no_writes, rows_with_put, rows_with_removal, writes_with_put, writes_with_removal}
use Rattle.schema.proofs.LookLemmas.{is_first}
use Rattle.schema.proofs.SplitLemmas.{inside_look}
use Rattle.bpf_semantics.specs.declared.value.Value.{Value}
use Rattle.bpf_semantics.specs.declared.value.Value.TheVariants.{Nothing, Number, Stack, Args}
use Rattle.bpf_semantics.specs.State.{State, register, with_register, past, entry_state}
use Rattle.bpf_semantics.specs.Memory.{stack_with, memory_with_store}
use Rattle.bpf_semantics.specs.Helpers.{Table, table_of, state_after_call, row_get, row_put, range_count, range_next, with_answer, with_stack, with_look, with_point_look, with_range_look, with_row_write, with_row_read, with_next_read, look_at, last_seen, row_or_zeros, key_or_zeros, row_of, flag}
use Rattle.bpf_semantics.specs.Run.{moment, next_moment}
use Rattle.bpf_semantics.specs.Step.{Moment, Going, Ended, Stuck, operand, low_bits, is_read_only, after_jump, with_result, with_store, execute, step}
use Rattle.bpf_semantics.specs.Fit.{IsPlace, IsValue, IsStackByte, IsLook, IsState}
use Rattle.bpf_semantics.proofs.StepLemmas.{just, bound, going_on, some_is, going_is}
use Rattle.bpf_semantics.proofs.RunLemmas.{exit_is, exit_reply, step_runs, going_runs, ended_runs}
use Rattle.bpf_semantics.proofs.FitLemmas.{PlaceFits, place_part, number_fits, alu_fits, operation_fits, load_fits, AreBytes, low_bytes_are, memory_fits, stack_part_fits, IsWhole, overwrite_fits, buffer_within, store_fits}

abbrev none : {X : Type 0} → Option X
none = None

-- ---- registers

some_register : (s : State) (r : Register) → number_of r < 11
some_register s r = elim r as (λ q. number_of q < 11) [ R0 ↦ omega arith | R1 ↦ omega arith | R2 ↦ omega arith | R3 ↦ omega arith | R4 ↦ omega arith | R5 ↦ omega arith | R6 ↦ omega arith | R7 ↦ omega arith | R8 ↦ omega arith | R9 ↦ omega arith | R10 ↦ omega arith ]

pub register_fits : (tables : Tables) (s : State) (r : Register) → IsState tables s → IsValue (register s r)
register_fits tables s r h = let below = some_register s r in let count = h.registers in All-get_or IsValue s.registers (number_of r) Nothing (omega arith) h.values

not_frame : (r : Register) → is_read_only r ≡ false → 10 ≢ number_of r
not_frame R0 e = omega arith
not_frame R1 e = omega arith
not_frame R2 e = omega arith
not_frame R3 e = omega arith
not_frame R4 e = omega arith
not_frame R5 e = omega arith
not_frame R6 e = omega arith
not_frame R7 e = omega arith
not_frame R8 e = omega arith
not_frame R9 e = omega arith
not_frame R10 e = absurd cc

-- ---- parts of a state

pub fits_register : (tables : Tables) (s : State) (dst : Register) (v : Value) → is_read_only dst ≡ false → IsValue v → IsState tables s → IsState tables (with_register s dst v)
fits_register tables s dst v free value h = record {
  registers = length-set s.registers (number_of dst) v ∙ h.registers;
  frame_pointer = get_or-set_other s.registers (number_of dst) 10 v Nothing (not_frame dst free) ∙ h.frame_pointer;
  values = All-set IsValue s.registers (number_of dst) v value h.values;
  stack = h.stack;
  each_stack_byte = h.each_stack_byte;
  args = h.args;
  rows = h.rows;
  writes = h.writes;
  looks = h.looks;
  code = h.code;
}

pub fits_past : (tables : Tables) (n : ℕ) (s : State) → IsState tables s → IsState tables (past n s)
fits_past tables n s h = record {
  registers = h.registers;
  frame_pointer = h.frame_pointer;
  values = h.values;
  stack = h.stack;
  each_stack_byte = h.each_stack_byte;
  args = h.args;
  rows = h.rows;
  writes = h.writes;
  looks = h.looks;
  code = h.code;
}

whole : (tables : Tables) (s : State) → IsState tables s → IsWhole s.stack
whole tables s h = record { long = h.stack; each = h.each_stack_byte }

pub fits_stack : (tables : Tables) (stack : List (Option ℕ)) (s : State) → IsWhole stack → IsState tables s → IsState tables (with_stack stack s)
fits_stack tables stack s w h = record {
  registers = h.registers;
  frame_pointer = h.frame_pointer;
  values = h.values;
  stack = w.long;
  each_stack_byte = w.each;
  args = h.args;
  rows = h.rows;
  writes = h.writes;
  looks = h.looks;
  code = h.code;
}

fits_answer : (tables : Tables) (answer : ℕ) (s : State) → answer < 2 ^ 64 → IsState tables s → IsState tables (with_answer answer s)
fits_answer tables answer s small h =
    let rest = length-drop 6 s.registers in
    let five : length (replicate 5 Nothing) ≡ 5 = length-replicate 5 Nothing in
    let both = length-append (replicate 5 Nothing) (drop 6 s.registers) in
    let count = h.registers in
    let long : length (Number answer ∷ (replicate 5 Nothing ++ drop 6 s.registers)) ≡ 11 = omega arith in
    let frame : get_or (Number answer ∷ (replicate 5 Nothing ++ drop 6 s.registers)) 10 Nothing ≡ Stack (pos 0) =
    get_or-append-add (Number answer ∷ replicate 5 Nothing) (drop 6 s.registers) 4 Nothing ∙ get_or-drop 6 s.registers 4 Nothing ∙ h.frame_pointer in
    record {
      registers = long;
      frame_pointer = frame;
      values = All-cons IsValue (Number answer) (replicate 5 Nothing ++ drop 6 s.registers) small (All-append IsValue (replicate 5 Nothing) (drop 6 s.registers) (All-replicate IsValue 5 Nothing tt) (All-drop IsValue 6 s.registers h.values));
      stack = h.stack;
      each_stack_byte = h.each_stack_byte;
      args = h.args;
      rows = h.rows;
      writes = h.writes;
      looks = h.looks;
      code = h.code;
    }

fits_look : (tables : Tables) (look : Look) (s : State) → IsLook tables look → IsState tables s → IsState tables (with_look look s)
fits_look tables look s is h = record {
  registers = h.registers;
  frame_pointer = h.frame_pointer;
  values = h.values;
  stack = h.stack;
  each_stack_byte = h.each_stack_byte;
  args = h.args;
  rows = h.rows;
  writes = h.writes;
  looks = All-append (IsLook tables) s.looks (look ∷ []) h.looks (All-cons (IsLook tables) look [] is (All-nil (IsLook tables)));
  code = h.code;
}

either : (tables : Tables) (b : Bool) (s t : State) → (b ≡ true → IsState tables s) → (b ≡ false → IsState tables t) → IsState tables (cond b s t)
either tables true s t p q = p refl
either tables false s t p q = q refl

fits_point : (tables : Tables) (table key : ℕ) (s : State) → IsSome (get tables table) → key < 2 ^ 64 → IsState tables s → IsState tables (with_point_look table key s)
fits_point tables table key s known small h =
    either tables (is_some (get s.writes (table, key))) s (with_look (look_at table key key) s) (λ e. h)
    (λ e. fits_look tables (look_at table key key) s (record { known = known; ordered = omega arith; fits = small }) h)

fits_range : (tables : Tables) (table lo hi last : ℕ) (s : State) → IsSome (get tables table) → (lo ≤ hi → lo ≤ last) → last < 2 ^ 64 → IsState tables s → IsState tables (with_range_look table lo hi last s)
fits_range tables table lo hi last s known from small h =
    either tables (nat_le lo hi) (with_look (look_at table lo last) s) s
    (λ e. let ordered : lo ≤ hi = grind (arith, nat_tests) in fits_look tables (look_at table lo last) s (record { known = known; ordered = from ordered; fits = small }) h)
    (λ e. h)

fits_put : (tables : Tables) (table key : ℕ) (bytes : List ℕ) (s : State) → IsRow tables table key bytes → IsState tables s → IsState tables (with_row_write table key (Some bytes) s)
fits_put tables table key bytes s row h = record {
  registers = h.registers;
  frame_pointer = h.frame_pointer;
  values = h.values;
  stack = h.stack;
  each_stack_byte = h.each_stack_byte;
  args = h.args;
  rows = rows_with_put tables s.rows table key bytes row h.rows;
  writes = writes_with_put tables s.writes table key bytes row h.writes;
  looks = h.looks;
  code = h.code;
}

fits_removal : (tables : Tables) (table key : ℕ) (s : State) → IsKey tables (table, key) → IsState tables s → IsState tables (with_row_write table key None s)
fits_removal tables table key s at h = record {
  registers = h.registers;
  frame_pointer = h.frame_pointer;
  values = h.values;
  stack = h.stack;
  each_stack_byte = h.each_stack_byte;
  args = h.args;
  rows = rows_with_removal tables s.rows (table, key) h.rows;
  writes = writes_with_removal tables s.writes (table, key) at h.writes;
  looks = h.looks;
  code = h.code;
}

fits_code : (tables : Tables) (code : ℕ) (s : State) → code < 2 ^ 64 → IsState tables s → IsState tables (record s { cancel_code = Some code })
fits_code tables code s small h = record {
  registers = h.registers;
  frame_pointer = h.frame_pointer;
  values = h.values;
  stack = h.stack;
  each_stack_byte = h.each_stack_byte;
  args = h.args;
  rows = h.rows;
  writes = h.writes;
  looks = h.looks;
  code = small;
}

-- ---- helpers

width_is : (tables : Tables) (v : Value) (t : Table) → table_of tables v ≡ just t → get tables t.table ≡ just t.width
width_is tables v t e =
    let a = bound _ _ t e in
    let b = bound _ _ t a.2 in
    subst (λ (x : Table). get tables x.table ≡ just x.width) (some_is _ t b.2) b.1

known_at : (tables : Tables) (table width : ℕ) → get tables table ≡ just width → IsSome (get tables table)
known_at tables table width e = subst (λ o. IsSome o) (sym e) refl

small_flag : {X : Type 0} (o : Option X) → flag o < 2 ^ 64
small_flag None = omega arith
small_flag (Some x) = omega arith

zeros_are : (width : ℕ) → AreBytes width (replicate width 0)
zeros_are width = record { counted = length-replicate width 0; each = All-replicate (λ b. b < 256) width 0 (omega arith) }

same_width : (m n : ℕ) → just m ≡ just n → m ≡ n
same_width m n e = cc

row_is : (tables : Tables) (table key width : ℕ) (bytes : List ℕ) → get tables table ≡ just width → IsRow tables table key bytes → AreBytes width bytes
row_is tables table key width bytes e row = record { counted = same_width (length bytes) width (sym row.width ∙ e); each = row.each_byte }

found_is : (tables : Tables) (table key width : ℕ) (rows : Rows) (found : Option (List ℕ)) → get tables table ≡ just width → AreRows tables rows → row_at rows table key ≡ found → AreBytes width (row_or_zeros width found)
found_is tables table key width rows None e are is = zeros_are width
found_is tables table key width rows (Some bytes) e are is = row_is tables table key width bytes e (are table key bytes is)

row_read_fits : (tables : Tables) (s : State) (t : Table) (key buffer : ℕ) (found : Option (List ℕ)) → get tables t.table ≡ just t.width → key < 2 ^ 64 → buffer + t.width ≤ 512
    → AreBytes t.width (row_or_zeros t.width found) → IsState tables s → IsState tables (with_row_read s t key buffer found)
row_read_fits tables s t key buffer found known small within bytes h =
    let stack = stack_with s.stack buffer (row_or_zeros t.width found) in
    fits_answer tables (flag found) (with_point_look t.table key (with_stack stack s)) (small_flag found)
    (fits_point tables t.table key (with_stack stack s) (known_at tables t.table t.width known) small
    (fits_stack tables stack s (overwrite_fits s.stack buffer t.width (row_or_zeros t.width found) (whole tables s h) bytes within) h))

-- what a next finds lies in the interval, and is a row
key_is : (found : Option (Key × List ℕ)) → AreBytes 8 (key_or_zeros found)
key_is None = zeros_are 8
key_is (Some found) = low_bytes_are 8 0 found.0.1

next_row_is : (tables : Tables) (table lo hi width : ℕ) (rows : Rows) (found : Option (Key × List ℕ)) → get tables table ≡ just width → AreRows tables rows
    → first_in (look_at table lo hi) rows ≡ found → AreBytes width (row_or_zeros width (row_of found))
next_row_is tables table lo hi width rows None known are is = zeros_are width
next_row_is tables table lo hi width rows (Some (k, bytes)) known are is =
    let first = is_first (look_at table lo hi) rows k bytes is in
    let inside = inside_look (look_at table lo hi) k first.covered in
    row_is tables table k.1 width bytes known (are table k.1 bytes (subst (λ (n : ℕ). get rows (n, k.1) ≡ just bytes) (sym inside.0) first.stands))

last_is : (table lo hi : ℕ) (rows : Rows) (found : Option (Key × List ℕ)) → first_in (look_at table lo hi) rows ≡ found → (lo ≤ hi → lo ≤ last_seen hi found) × (last_seen hi found ≤ hi)
last_is table lo hi rows None is = (λ h. h, omega arith)
last_is table lo hi rows (Some (k, bytes)) is =
    let first = is_first (look_at table lo hi) rows k bytes is in
    let inside = inside_look (look_at table lo hi) k first.covered in
    (λ h. inside.1, inside.2)

next_read_fits : (tables : Tables) (s : State) (t : Table) (lo hi key_buffer row_buffer : ℕ) → get tables t.table ≡ just t.width → hi < 2 ^ 64 → key_buffer + 8 ≤ 512 → row_buffer + t.width ≤ 512
    → IsState tables s → IsState tables (with_next_read s t lo hi key_buffer row_buffer (first_in (look_at t.table lo hi) s.rows))
next_read_fits tables s t lo hi key_buffer row_buffer known small key_within row_within h =
    let found = first_in (look_at t.table lo hi) s.rows in
    let last = last_is t.table lo hi s.rows (first_in (look_at t.table lo hi) s.rows) refl in
    let small_last : last_seen hi (first_in (look_at t.table lo hi) s.rows) < 2 ^ 64 = let most = last.1 in omega arith in
    let keyed = stack_with s.stack key_buffer (key_or_zeros (first_in (look_at t.table lo hi) s.rows)) in
    let keyed_fits = overwrite_fits s.stack key_buffer 8 (key_or_zeros (first_in (look_at t.table lo hi) s.rows)) (whole tables s h) (key_is (first_in (look_at t.table lo hi) s.rows)) key_within in
    let row = row_or_zeros t.width (row_of (first_in (look_at t.table lo hi) s.rows)) in
    let row_fits = next_row_is tables t.table lo hi t.width s.rows (first_in (look_at t.table lo hi) s.rows) known h.rows refl in
    let stack = stack_with (stack_with s.stack key_buffer (key_or_zeros (first_in (look_at t.table lo hi) s.rows))) row_buffer (row_or_zeros t.width (row_of (first_in (look_at t.table lo hi) s.rows))) in
    fits_answer tables (flag (first_in (look_at t.table lo hi) s.rows)) (with_range_look t.table lo hi (last_seen hi (first_in (look_at t.table lo hi) s.rows)) (with_stack stack s)) (small_flag (first_in (look_at t.table lo hi) s.rows))
    (fits_range tables t.table lo hi (last_seen hi (first_in (look_at t.table lo hi) s.rows)) (with_stack stack s) (known_at tables t.table t.width known) last.0 small_last
    (fits_stack tables stack s (overwrite_fits keyed row_buffer t.width row keyed_fits row_fits row_within) h))

called_fits : (tables : Tables) (h : Helper) (s u : State) → state_after_call tables h s ≡ just u → IsState tables s → IsState tables u
unfolding state_after_call row_get row_put range_next
called_fits tables RowGet s u e fits =
    let a = bound _ _ u e in
    let b = bound _ _ u a.2 in
    let d = bound _ _ u b.2 in
    let known = width_is tables (register s R1) a.0 a.1 in
    let small = number_fits (register s R2) b.0 (register_fits tables s R2 fits) b.1 in
    let bytes = found_is tables a.0.table b.0 a.0.width s.rows (row_at s.rows a.0.table b.0) known fits.rows refl in
    subst (IsState tables) (some_is _ u d.2) (row_read_fits tables s a.0 b.0 d.0 (row_at s.rows a.0.table b.0) known small (buffer_within (register s R3) a.0.width d.0 d.1) bytes fits)
called_fits tables RowPut s u e fits =
    let a = bound _ _ u e in
    let b = bound _ _ u a.2 in
    let d = bound _ _ u b.2 in
    let f = bound _ _ u d.2 in
    let known = width_is tables (register s R1) a.0 a.1 in
    let small = number_fits (register s R2) b.0 (register_fits tables s R2 fits) b.1 in
    let bytes = stack_part_fits s.stack d.0 a.0.width f.0 fits.stack fits.each_stack_byte (buffer_within (register s R3) a.0.width d.0 d.1) f.1 in
    let row : IsRow tables a.0.table b.0 f.0 = record {
      at_key = record { table_is = known_at tables a.0.table a.0.width known; key_fits = small };
      width = known ∙ ap (λ (n : ℕ). just n) (sym bytes.counted);
      each_byte = bytes.each;
    } in
    subst (IsState tables) (some_is _ u f.2) (fits_answer tables 0 (with_row_write a.0.table b.0 (Some f.0) s) (omega arith) (fits_put tables a.0.table b.0 f.0 s row fits))
called_fits tables RowDelete s u e fits =
    let a = bound _ _ u e in
    let b = bound _ _ u a.2 in
    let known = width_is tables (register s R1) a.0 a.1 in
    let small = number_fits (register s R2) b.0 (register_fits tables s R2 fits) b.1 in
    let at : IsKey tables (a.0.table, b.0) = record { table_is = known_at tables a.0.table a.0.width known; key_fits = small } in
    subst (IsState tables) (some_is _ u b.2) (fits_answer tables 0 (with_row_write a.0.table b.0 None s) (omega arith) (fits_removal tables a.0.table b.0 s at fits))
called_fits tables RangeCount s u e fits =
    let a = bound _ _ u e in
    let b = bound _ _ u a.2 in
    let d = bound _ _ u b.2 in
    let known = width_is tables (register s R1) a.0 a.1 in
    let small = number_fits (register s R3) d.0 (register_fits tables s R3 fits) d.1 in
    subst (IsState tables) (some_is (range_count s a.0 b.0 d.0) u d.2) (fits_answer tables _ (with_range_look a.0.table b.0 d.0 d.0 s) (omega arith)
    (fits_range tables a.0.table b.0 d.0 d.0 s (known_at tables a.0.table a.0.width known) (λ h. h) small fits))
called_fits tables RangeNext s u e fits =
    let a = bound _ _ u e in
    let b = bound _ _ u a.2 in
    let d = bound _ _ u b.2 in
    let f = bound _ _ u d.2 in
    let g = bound _ _ u f.2 in
    let known = width_is tables (register s R1) a.0 a.1 in
    let small = number_fits (register s R3) d.0 (register_fits tables s R3 fits) d.1 in
    subst (IsState tables) (some_is _ u g.2) (next_read_fits tables s a.0 b.0 d.0 f.0 g.0 known small (buffer_within (register s R4) 8 f.0 f.1) (buffer_within (register s R5) a.0.width g.0 g.1) fits)
called_fits tables Cancel s u e fits =
    let a = bound _ _ u e in
    let small = number_fits (register s R1) a.0 (register_fits tables s R1 fits) a.1 in
    subst (IsState tables) (some_is _ u a.2) (fits_answer tables 0 (record s { cancel_code = Some a.0 }) (omega arith) (fits_code tables a.0 s small fits))

-- ---- a step

on_fits : (tables : Tables) (n : ℕ) (s t : State) → Going (past n s) ≡ Going t → IsState tables s → IsState tables t
on_fits tables n s t e h = subst (IsState tables) (going_is (past n s) t e) (fits_past tables n s h)

set_fits : (tables : Tables) (n : ℕ) (dst : Register) (v : Value) (s t : State) → IsValue v → with_result n dst v s ≡ Going t → IsState tables s → IsState tables t
set_fits tables n dst v s t value e h =
    elim (is_read_only dst) as (λ b. is_read_only dst ≡ b → cond b Stuck (Going (past n (with_register s dst v))) ≡ Going t → IsState tables t) [
      | true ↦ λ is g. absurd cc
      | false ↦ λ is g. on_fits tables n (with_register s dst v) t g (fits_register tables s dst v is value h)
    ] refl e

stored_fits : (tables : Tables) (v : Value) (offset : ℤ) (bytes : List ℕ) (s t : State) → AreBytes (length bytes) bytes → with_store (memory_with_store s.stack v offset bytes) s ≡ Going t → IsState tables s → IsState tables t
stored_fits tables v offset bytes s t are e h =
    let a = going_on (memory_with_store s.stack v offset bytes) _ t e in
    on_fits tables 1 (with_stack a.0 s) t a.2 (fits_stack tables a.0 s (store_fits s.stack v offset bytes a.0 (whole tables s h) are a.1) h)

jump_fits : (tables : Tables) (d : ℤ) (s t : State) → after_jump d s ≡ Going t → IsState tables s → IsState tables t
jump_fits tables (pos n) s t e h = on_fits tables (1 + n) s t e h
jump_fits tables (negsuc n) s t e h = absurd cc

branch_fits : (tables : Tables) (b : Bool) (d : ℤ) (s t : State) → cond b (after_jump d s) (Going (past 1 s)) ≡ Going t → IsState tables s → IsState tables t
branch_fits tables true d s t e h = jump_fits tables d s t e h
branch_fits tables false d s t e h = on_fits tables 1 s t e h

end_fits : (order : ByteOrder) (width : EndWidth) (a : ℕ) → end_value order width a < 2 ^ 64
end_fits order Low16 a = let below : end_value order Low16 a < 2 ^ 16 = ended_below order Low16 a in omega arith
end_fits order Low32 a = let below : end_value order Low32 a < 2 ^ 32 = ended_below order Low32 a in omega arith
end_fits order Low64 a = ended_below order Low64 a

stored_bytes : (n x : ℕ) → AreBytes (length (little_bytes n x)) (little_bytes n x)
stored_bytes n x = let are = low_bytes_are n 0 x in record { counted = refl; each = are.each }

operand_fits : (tables : Tables) (s : State) (src : Source) → IsState tables s → PlaceFits (operand s src)
operand_fits tables s (source.Immediate immediate) h = tt
operand_fits tables s (source.Register r) h = place_part (register s r) (register_fits tables s r h)

execute_fits : (tables : Tables) (i : Instruction) (s t : State) → IsInRange i → execute tables i s ≡ Going t → IsState tables s → IsState tables t
unfolding execute
execute_fits tables (LoadWide dst value) s t range e h = set_fits tables 2 dst (Number value) s t range e h
execute_fits tables (Load kind dst src offset) s t range e h =
    let a = going_on _ _ t e in
    let bytes = memory_fits s.stack s.args (register s src) offset (load_bytes kind) a.0 h.stack h.each_stack_byte h.args a.1 in
    set_fits tables 1 dst _ s t (load_fits kind a.0 bytes.counted bytes.each) a.2 h
execute_fits tables (StoreImmediate size dst offset immediate) s t range e h =
    stored_fits tables (register s dst) offset (little_bytes (size_bytes size) (cast_unsigned w64 immediate)) s t (stored_bytes (size_bytes size) (cast_unsigned w64 immediate)) e h
execute_fits tables (StoreRegister size dst src offset) s t range e h =
    let a = going_on _ _ t e in
    stored_fits tables (register s dst) offset (little_bytes (size_bytes size) a.0) s t (stored_bytes (size_bytes size) a.0) a.2 h
execute_fits tables (Arithmetic width op dst src) s t range e h =
    let a = going_on _ _ t e in
    set_fits tables 1 dst a.0 s t (operation_fits width op (register s dst) (operand s src) a.0 (operand_fits tables s src h) a.1) a.2 h
execute_fits tables (Negate width dst) s t range e h = let a = going_on _ _ t e in set_fits tables 1 dst _ s t (alu_fits width Neg a.0 0) a.2 h
execute_fits tables (MoveSignExtended kind dst src) s t range e h =
    let a = going_on _ _ t e in
    set_fits tables 1 dst _ s t (alu_fits (extension_width kind) (Movsx (low_bits kind)) 0 a.0) a.2 h
execute_fits tables (End order width dst) s t range e h = let a = going_on _ _ t e in set_fits tables 1 dst _ s t (end_fits order width a.0) a.2 h
execute_fits tables (Jump distance) s t range e h = jump_fits tables distance s t e h
execute_fits tables (LongJump distance) s t range e h = jump_fits tables distance s t e h
execute_fits tables (Branch width condition dst src distance) s t range e h =
    let a = going_on _ _ t e in
    let b = going_on _ _ t a.2 in
    branch_fits tables (holds (width_bits width) condition a.0 b.0) distance s t b.2 h
execute_fits tables (Call helper) s t range e h =
    let a = going_on _ _ t e in
    let c = bound (helper_of helper) _ a.0 a.1 in
    on_fits tables 1 a.0 t a.2 (called_fits tables c.0 s a.0 c.2 h)
execute_fits tables Exit s t range e h = let a = going_on _ _ t e in absurd cc

-- ---- runs

entry_fits : (tables : Tables) (args : List ℕ) (rows : Rows) → All (λ b. b < 256) args → AreRows tables rows → IsState tables (entry_state args rows)
entry_fits tables args rows bytes are =
    let zero_fits : IsPlace (pos 0) = (search (arith, ints), search (arith, ints)) in
    record {
      registers = refl;
      frame_pointer = refl;
      values =
          All-cons IsValue Nothing (Args (pos 0) ∷ (replicate 8 Nothing ++ Stack (pos 0) ∷ [])) tt
          (All-cons IsValue (Args (pos 0)) (replicate 8 Nothing ++ Stack (pos 0) ∷ []) zero_fits
          (All-append IsValue (replicate 8 Nothing) (Stack (pos 0) ∷ []) (All-replicate IsValue 8 Nothing tt) (All-cons IsValue (Stack (pos 0)) [] zero_fits (All-nil IsValue))));
      stack = length-replicate 512 (none {X = ℕ});
      each_stack_byte = All-replicate IsStackByte 512 (none {X = ℕ}) tt;
      args = bytes;
      rows = are;
      writes = no_writes tables;
      looks = All-nil (IsLook tables);
      code = tt;
    }

-- a moment of such a run
abbrev pub MomentFits : Tables → Moment → Type 0
MomentFits tables (Going s) = IsState tables s
MomentFits tables (Ended reply s) = IsState tables s × (reply < 2 ^ 64)
MomentFits tables Stuck = Unit {0}

step_fits : (p : Program) (tables : Tables) (s : State) → AllInRange p → IsState tables s → MomentFits tables (step p tables s)
step_fits p tables s range h =
    elim (step p tables s) as (λ m. step p tables s ≡ m → MomentFits tables m) [
      | Going t ↦ λ e.
          let runs = step_runs p tables s (Going t) e (going_runs t) in
          execute_fits tables runs.0 s t (range_at p s.slot runs.0 range runs.1) runs.2 h
      | Ended r t ↦ λ e.
          let runs = step_runs p tables s (Ended r t) e (ended_runs r t) in
          (subst (IsState tables) (exit_is tables runs.0 s r t runs.2) (fits_past tables 0 s h), number_fits (register s R0) r (register_fits tables s R0 h) (exit_reply tables runs.0 s r t runs.2))
      | Stuck ↦ λ e. tt
    ] refl

pub moment_fits : (p : Program) (tables : Tables) (args : List ℕ) (rows : Rows) (k : ℕ) → AllInRange p → All (λ b. b < 256) args → AreRows tables rows → MomentFits tables (moment p tables k (entry_state args rows))
unfolding moment
moment_fits p tables args rows zero range bytes are = entry_fits tables args rows bytes are
moment_fits p tables args rows (suc k) range bytes are =
    elim (moment p tables k (entry_state args rows)) as (λ m. MomentFits tables m → MomentFits tables (next_moment (step p tables) m)) [
      | Going s ↦ λ h. step_fits p tables s range h
      | Ended r s ↦ λ h. h
      | Stuck ↦ λ h. h
    ] (moment_fits p tables args rows k range bytes are)
