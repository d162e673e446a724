-- A call without a cause to be refused leads along an edge: each helper, and then the step.
use Rattle.std.proofs.Common.{◌≡◌, ℕ, ◌%◌, ◌^◌, ℤ, false, List, length, Option, Some, None, refl, sym, ap, subst, ◌∙◌, arith}
use Rattle.std.specs.FinMap.{get}
use Rattle.std.specs.List.{list_any}
use Rattle.std.specs.Option.{is_none}
use Rattle.std.proofs.lemmas.List.{length-replicate}
use Rattle.bpf_code.specs.declared.instruction.Register.TheVariants.{R1, R2, R3, R4, R5}
use Rattle.bpf_code.specs.declared.instruction.Instruction.TheVariants.{Call}
use Rattle.schema.specs.Schema.{Tables}
use Rattle.schema.specs.Rows.{Key, Rows, AreRows, row_at, count_in, first_in}
use Rattle.schema.specs.Helper.{helper_of}
use Rattle.schema.specs.declared.helper.Helper.{Helper}
use Rattle.schema.specs.declared.helper.Helper.TheVariants.{RowGet, RowPut, RowDelete, RangeCount, RangeNext, Cancel}
use Rattle.schema.proofs.LookLemmas.{is_first}
use Rattle.schema.proofs.SplitLemmas.{inside_look}
use Rattle.bpf_semantics.specs.declared.value.Value.{Value}
use Rattle.bpf_semantics.specs.State.{State, register, past, number}
use Rattle.bpf_semantics.specs.Memory.{◌>>=◌, known_bytes, stack_with}
use Rattle.bpf_semantics.specs.Helpers.{Table, table_of, buffer_of, state_after_call, row_get, row_put, row_delete, range_count, range_next, cancel, with_answer, with_stack, with_row_read, with_next_read, with_row_write, with_point_look, with_range_look, look_at, last_seen, row_or_zeros, key_or_zeros, row_of, flag}
use Rattle.bpf_semantics.specs.Step.{Going, execute}
use Rattle.bpf_semantics.specs.Fit.{IsState}
use Rattle.bpf_semantics.proofs.StepLemmas.{just, called_place}
use Rattle.bpf_semantics.proofs.FitLemmas.{low_bytes_are}
use Rattle.interval.specs.Range.{IsWithin, from_to, single}
use Rattle.interval.specs.Table.{any_word}
use Rattle.abs_state.specs.declared.kind.Kind.{Kind}
use Rattle.abs_state.specs.declared.state.AbsState.{AbsState}
use Rattle.abs_state.specs.State.{kind_of}
use Rattle.abs_state.specs.Kind.{table_width}
use Rattle.abs_step.specs.Cause.{call_arguments, lacks_room, row_is_uninitialised}
use Rattle.abs_step.specs.Result.{next_state, after_call, with_buffer}
use Rattle.acceptance.specs.Description.{Describes, IsAbsState, IsStepAlongEdge, StepsAlong}
use Rattle.acceptance.proofs.Causes.{no_cause, neither}
use Rattle.acceptance.proofs.Put.{past_described}
use Rattle.acceptance.proofs.Falling.{taken, goes, falls_along}
use Rattle.acceptance.proofs.After.{then_after, after_described}
use Rattle.acceptance.proofs.Arguments.{CallFits, call_fits, number_known, table_known, buffer_known, buffer_after, buffer_read}
use Rattle.acceptance.proofs.Answer.{answer_described, point_described, range_described, write_described, code_described}

-- ---- answers, and what is written to buffers

zero_within : IsWithin (single 0) 0
zero_within = record { from = omega arith; to = omega arith }

flag_within : {X : Type 0} (o : Option X) → IsWithin (from_to 0 1) (flag o)
flag_within None = record { from = omega arith; to = omega arith }
flag_within (Some x) = record { from = omega arith; to = omega arith }

count_within : (n : ℕ) → IsWithin (any_word 64) (n % 2 ^ 64)
count_within n = record { from = omega arith; to = omega arith }

same_width : (m n : ℕ) → just m ≡ just n → m ≡ n
same_width m n e = cc

row_long : (tables : Tables) (table key width : ℕ) (rows : Rows) (found : Option (List ℕ)) → get tables table ≡ just width → AreRows tables rows → row_at rows table key ≡ found → length (row_or_zeros width found) ≡ width
row_long tables table key width rows None e are is = length-replicate width 0
row_long tables table key width rows (Some bytes) e are is = let row = are table key bytes is in same_width (length bytes) width (sym row.width ∙ e)

next_row_long : (tables : Tables) (table lo hi width : ℕ) (rows : Rows) (found : Option (Key × List ℕ)) → get tables table ≡ just width → AreRows tables rows → first_in (look_at table lo hi) rows ≡ found
    → length (row_or_zeros width (row_of found)) ≡ width
next_row_long tables table lo hi width rows None e are is = length-replicate width 0
next_row_long tables table lo hi width rows (Some (k, bytes)) e are is =
    let first = is_first (look_at table lo hi) rows k bytes is in
    let inside = inside_look (look_at table lo hi) k first.covered in
    let row = are table k.1 bytes (subst (λ (n : ℕ). get rows (n, k.1) ≡ just bytes) (sym inside.0) first.stands) in
    same_width (length bytes) width (sym row.width ∙ e)

key_long : (found : Option (Key × List ℕ)) → length (key_or_zeros found) ≡ 8
key_long None = length-replicate {A = ℕ} 8 0
key_long (Some found) = (low_bytes_are 8 0 found.0.1).counted

-- ---- the helpers

-- the state after the call, of which what is known afterwards is true
pub record Called (tables : Tables) (args_len : ℕ) (h : Helper) (known : AbsState) (s : State) : Type 0 where
  pub state : State
  pub is : state_after_call tables h s ≡ just state
  pub described : Describes args_len (after_call tables (just h) known) state

abbrev pub IsCalled : Helper → Type 0
IsCalled h = (tables : Tables) (args_len : ℕ) (known : AbsState) (s : State) → CallFits tables h known → IsAbsState known → IsState tables s → Describes args_len known s → Called tables args_len h known s

pub cancel_called : IsCalled Cancel
unfolding state_after_call
cancel_called tables args_len known s fits abs state d =
    let n = number_known (kind_of known R1) (register s R1) (d.registers R1) (neither _ false fits.numbers).0 in
    record {
      state = cancel s n.0;
      is = taken (number (register s R1)) (λ (code : ℕ). just (cancel s code)) n.0 n.1;
      described = answer_described args_len known (record s { cancel_code = Some n.0 }) (single 0) 0 abs.registers zero_within (code_described args_len known n.0 s d);
    }

pub delete_called : IsCalled RowDelete
unfolding state_after_call
delete_called tables args_len known s fits abs state d =
    let t = table_known tables (kind_of known R1) (register s R1) (d.registers R1) (neither _ false fits.table).0 in
    let n = number_known (kind_of known R2) (register s R2) (d.registers R2) (neither _ false fits.numbers).0 in
    record {
      state = row_delete s t.table n.0;
      is = taken (table_of tables (register s R1)) _ t.table t.is ∙ taken (number (register s R2)) (λ (key : ℕ). just (row_delete s t.table key)) n.0 n.1;
      described = answer_described args_len known (with_row_write t.table.table n.0 None s) (single 0) 0 abs.registers zero_within (write_described args_len known t.table.table n.0 None s d);
    }

pub count_called : IsCalled RangeCount
unfolding state_after_call
count_called tables args_len known s fits abs state d =
    let t = table_known tables (kind_of known R1) (register s R1) (d.registers R1) (neither _ false fits.table).0 in
    let numbers = neither _ _ fits.numbers in
    let lo = number_known (kind_of known R2) (register s R2) (d.registers R2) numbers.0 in
    let hi = number_known (kind_of known R3) (register s R3) (d.registers R3) (neither _ false numbers.1).0 in
    record {
      state = range_count s t.table lo.0 hi.0;
      is = taken (table_of tables (register s R1)) _ t.table t.is ∙ taken (number (register s R2)) _ lo.0 lo.1 ∙ taken (number (register s R3)) (λ (n : ℕ). just (range_count s t.table lo.0 n)) hi.0 hi.1;
      described = answer_described args_len known (with_range_look t.table.table lo.0 hi.0 hi.0 s) (any_word 64) (count_in (look_at t.table.table lo.0 hi.0) s.rows % 2 ^ 64) abs.registers
          (count_within (count_in (look_at t.table.table lo.0 hi.0) s.rows)) (range_described args_len known t.table.table lo.0 hi.0 hi.0 s d);
    }

row_get_is : (s : State) (t : Table) (key : ℕ) (to : Value) (at : ℕ) → buffer_of to t.width ≡ just at → row_get s t key to ≡ just (with_row_read s t key at (row_at s.rows t.table key))
unfolding row_get
row_get_is s t key to at e = taken (buffer_of to t.width) (λ (buffer : ℕ). just (with_row_read s t key buffer (row_at s.rows t.table key))) at e

pub get_called : IsCalled RowGet
unfolding state_after_call
get_called tables args_len known s fits abs state d =
    let t = table_known tables (kind_of known R1) (register s R1) (d.registers R1) (neither _ false fits.table).0 in
    let n = number_known (kind_of known R2) (register s R2) (d.registers R2) (neither _ false fits.numbers).0 in
    let room = ap (λ (o : Option ℕ). lacks_room o (kind_of known R3)) (sym t.width) ∙ (neither _ false fits.buffers).0 in
    let b = buffer_known (kind_of known R3) (register s R3) t.table.width (d.registers R3) room in
    let found = row_at s.rows t.table.table n.0 in
    let row = row_or_zeros t.table.width (row_at s.rows t.table.table n.0) in
    let next = with_buffer known (kind_of known R3) (table_width tables (kind_of known R1)) in
    let long = row_long tables t.table.table n.0 t.table.width s.rows (row_at s.rows t.table.table n.0) t.has state.rows refl in
    let after = buffer_after known s.stack (kind_of known R3) (register s R3) (table_width tables (kind_of known R1)) t.table.width row (record { long = abs.stack; whole = state.stack; bytes = d.stack }) t.width long b in
    let seen = after_described args_len known next s (stack_with s.stack b.at row) after d in
    let looked = point_described args_len next t.table.table n.0 (with_stack (stack_with s.stack b.at row) s) seen in
    record {
      state = with_row_read s t.table n.0 b.at found;
      is = taken (table_of tables (register s R1)) _ t.table t.is ∙ taken (number (register s R2)) _ n.0 n.1 ∙ row_get_is s t.table n.0 (register s R3) b.at b.is;
      described = answer_described args_len next (with_point_look t.table.table n.0 (with_stack (stack_with s.stack b.at row) s)) (from_to 0 1) (flag found) (ap (λ (kinds : List Kind). length kinds) after.kinds ∙ abs.registers) (flag_within found) looked;
    }

row_put_is : (s : State) (t : Table) (key : ℕ) (from : Value) (at : ℕ) (bytes : List ℕ) → buffer_of from t.width ≡ just at → known_bytes s.stack at t.width ≡ just bytes
    → row_put s t key from ≡ just (with_answer 0 (with_row_write t.table key (Some bytes) s))
unfolding row_put
row_put_is s t key from at bytes e f =
    taken (buffer_of from t.width) _ at e ∙ taken (known_bytes s.stack at t.width) (λ (bs : List ℕ). just (with_answer 0 (with_row_write t.table key (Some bs) s))) bytes f

pub put_called : IsCalled RowPut
unfolding state_after_call
put_called tables args_len known s fits abs state d =
    let t = table_known tables (kind_of known R1) (register s R1) (d.registers R1) (neither _ false fits.table).0 in
    let n = number_known (kind_of known R2) (register s R2) (d.registers R2) (neither _ false fits.numbers).0 in
    let room = ap (λ (o : Option ℕ). lacks_room o (kind_of known R3)) (sym t.width) ∙ (neither _ false fits.buffers).0 in
    let b = buffer_known (kind_of known R3) (register s R3) t.table.width (d.registers R3) room in
    let initialised = ap (λ (o : Option ℕ). list_any (λ a. row_is_uninitialised known o a.0 (kind_of known a.1)) (call_arguments (just RowPut))) (sym t.width) ∙ fits.initialised in
    let row = neither _ false initialised in
    let bytes = buffer_read known s.stack (kind_of known R3) (register s R3) t.table.width (record { long = abs.stack; whole = state.stack; bytes = d.stack }) b row.0 in
    record {
      state = with_answer 0 (with_row_write t.table.table n.0 (Some bytes.0) s);
      is = taken (table_of tables (register s R1)) _ t.table t.is ∙ taken (number (register s R2)) _ n.0 n.1 ∙ row_put_is s t.table n.0 (register s R3) b.at bytes.0 b.is bytes.1;
      described = answer_described args_len known (with_row_write t.table.table n.0 (Some bytes.0) s) (single 0) 0 abs.registers zero_within (write_described args_len known t.table.table n.0 (Some bytes.0) s d);
    }

range_next_is : (s : State) (t : Table) (lo hi : ℕ) (key_to row_to : Value) (key_at row_at : ℕ) → buffer_of key_to 8 ≡ just key_at → buffer_of row_to t.width ≡ just row_at
    → range_next s t lo hi key_to row_to ≡ just (with_next_read s t lo hi key_at row_at (first_in (look_at t.table lo hi) s.rows))
unfolding range_next
range_next_is s t lo hi key_to row_to key_at row_at e f =
    taken (buffer_of key_to 8) _ key_at e ∙ taken (buffer_of row_to t.width) (λ (n : ℕ). just (with_next_read s t lo hi key_at n (first_in (look_at t.table lo hi) s.rows))) row_at f

pub next_called : IsCalled RangeNext
unfolding state_after_call
next_called tables args_len known s fits abs state d =
    let t = table_known tables (kind_of known R1) (register s R1) (d.registers R1) (neither _ false fits.table).0 in
    let numbers = neither _ _ fits.numbers in
    let lo = number_known (kind_of known R2) (register s R2) (d.registers R2) numbers.0 in
    let hi = number_known (kind_of known R3) (register s R3) (d.registers R3) (neither _ false numbers.1).0 in
    let rooms = neither _ _ fits.buffers in
    let room = ap (λ (o : Option ℕ). lacks_room o (kind_of known R5)) (sym t.width) ∙ (neither _ false rooms.1).0 in
    let kb = buffer_known (kind_of known R4) (register s R4) 8 (d.registers R4) rooms.0 in
    let rb = buffer_known (kind_of known R5) (register s R5) t.table.width (d.registers R5) room in
    let found = first_in (look_at t.table.table lo.0 hi.0) s.rows in
    let key = key_or_zeros (first_in (look_at t.table.table lo.0 hi.0) s.rows) in
    let row = row_or_zeros t.table.width (row_of (first_in (look_at t.table.table lo.0 hi.0) s.rows)) in
    let keyed = stack_with s.stack kb.at key in
    let stack = stack_with (stack_with s.stack kb.at key) rb.at row in
    let first = with_buffer known (kind_of known R4) (Some 8) in
    let next = with_buffer (with_buffer known (kind_of known R4) (Some 8)) (kind_of known R5) (table_width tables (kind_of known R1)) in
    let row_counted = next_row_long tables t.table.table lo.0 hi.0 t.table.width s.rows (first_in (look_at t.table.table lo.0 hi.0) s.rows) t.has state.rows refl in
    let a = buffer_after known s.stack (kind_of known R4) (register s R4) (Some 8) 8 key (record { long = abs.stack; whole = state.stack; bytes = d.stack }) refl (key_long (first_in (look_at t.table.table lo.0 hi.0) s.rows)) kb in
    let c = buffer_after first keyed (kind_of known R5) (register s R5) (table_width tables (kind_of known R1)) t.table.width row (record { long = a.long; whole = a.whole; bytes = a.bytes }) t.width row_counted rb in
    let after = then_after known first next keyed stack a c in
    let seen = after_described args_len known next s stack after d in
    let looked = range_described args_len next t.table.table lo.0 hi.0 (last_seen hi.0 found) (with_stack stack s) seen in
    record {
      state = with_next_read s t.table lo.0 hi.0 kb.at rb.at found;
      is = taken (table_of tables (register s R1)) _ t.table t.is ∙ taken (number (register s R2)) _ lo.0 lo.1 ∙ taken (number (register s R3)) _ hi.0 hi.1 ∙ range_next_is s t.table lo.0 hi.0 (register s R4) (register s R5) kb.at rb.at kb.is rb.is;
      described = answer_described args_len next (with_range_look t.table.table lo.0 hi.0 (last_seen hi.0 found) (with_stack stack s)) (from_to 0 1) (flag found) (ap (λ (kinds : List Kind). length kinds) after.kinds ∙ abs.registers) (flag_within found) looked;
    }

pub called : (h : Helper) → IsCalled h
called RowGet = get_called
called RowPut = put_called
called RowDelete = delete_called
called RangeCount = count_called
called RangeNext = next_called
called Cancel = cancel_called

-- ---- the step

helper_there : (o : Option Helper) → is_none o ≡ false → (h : Helper) × (o ≡ just h)
helper_there None e = absurd cc
helper_there (Some h) e = (h, refl)

pub call_along : (tables : Tables) (args_len : ℕ) (n : ℤ) → StepsAlong tables args_len (Call n)
unfolding execute next_state
call_along tables args_len n known s schema abs state d none =
    let causes = no_cause tables args_len (Call n) known none in
    let h = helper_there (helper_of n) causes.helper in
    let c = called h.0 tables args_len known s (call_fits tables args_len n h.0 known h.1 causes) abs state d in
    let described = subst (λ (o : Option Helper). Describes args_len (after_call tables o known) c.state) (sym h.1) c.described in
    let on = falls_along tables args_len 1 (Call n) known (after_call tables (helper_of n) known) s c.state refl refl (called_place tables h.0 s c.state c.is).slot (past_described args_len 1 (after_call tables (helper_of n) known) c.state described) in
    let steps = goes (helper_of n >>= λ q. state_after_call tables q s) (λ (t : State). Going (past 1 t)) c.state (taken (helper_of n) (λ (q : Helper). state_after_call tables q s) h.0 h.1 ∙ c.is) in
    subst (IsStepAlongEdge tables args_len (Call n) known s) (sym steps) on
