-- What an instruction sends may be known of a state.
use Rattle.std.proofs.Common.{◌≡◌, ℕ, ◌+◌, ◌^◌, ◌<◌, ◌≤◌, ◌%◌, Bool, true, false, Option, Some, None, refl, ◌∙◌, arith}
use Rattle.std.specs.Prelude.{ℤ, pos, ◌+ℤ◌, IfSome, if◌then◌else◌}
use Rattle.std.specs.Int.{w64, cast_unsigned}
use Rattle.std.specs.Ordering.{int_eq}
use Rattle.bpf_words.specs.declared.condition.Condition.{Condition}
use Rattle.bpf_words.specs.declared.operation.BinaryOperation.{BinaryOperation}
use Rattle.bpf_words.specs.declared.operation.Operation.{Operation}
use Rattle.bpf_words.specs.declared.operation.Operation.TheVariants.{Binary, Neg, Movsx}
use Rattle.bpf_words.specs.declared.operation.BinaryOperation.TheVariants.{Mov}
use Rattle.bpf_words.specs.declared.operation.ByteOrder.{ByteOrder}
use Rattle.bpf_words.specs.declared.operation.EndWidth.{EndWidth}
use Rattle.bpf_words.specs.declared.operation.EndWidth.TheVariants.{Low16, Low32, Low64}
use Rattle.bpf_words.specs.End.{end_bits}
use Rattle.bpf_code.specs.declared.instruction.LoadKind.{LoadKind}
use Rattle.bpf_code.specs.declared.instruction.LoadKind.TheVariants.{U8, U16, U32, U64, I8, I16, I32}
use Rattle.bpf_code.specs.declared.instruction.Register.{Register}
use Rattle.bpf_code.specs.declared.instruction.Register.TheVariants.{R0, R1, R2, R3, R4, R5}
use Rattle.bpf_code.specs.declared.instruction.Width.{Width}
use Rattle.bpf_code.specs.declared.instruction.Width.TheVariants.{Bits32, Bits64}
use Rattle.bpf_code.specs.declared.instruction.Source.{Source}
use Rattle.bpf_code.specs.declared.instruction.Source.TheVariants as source
use Rattle.bpf_code.specs.declared.instruction.Instruction.{Instruction}
use Rattle.bpf_code.specs.declared.instruction.Instruction.TheVariants.{LoadWide, Load, StoreImmediate, StoreRegister, Arithmetic, Negate, MoveSignExtended, End, Jump, LongJump, Branch, Call, Exit}
use Rattle.bpf_code.specs.Sizes.{width_bits, extension_width, size_bytes}
use Rattle.schema.specs.Schema.{Tables}
use Rattle.schema.specs.Helper.{helper_of, answer_of}
use Rattle.schema.specs.declared.helper.Helper.{Helper}
use Rattle.schema.specs.declared.helper.Helper.TheVariants.{RowGet, RowPut, RowDelete, RangeCount, RangeNext, Cancel}
use Rattle.schema.specs.declared.helper.AnswerKind.{AnswerKind}
use Rattle.schema.specs.declared.helper.AnswerKind.TheVariants.{Flag, Zero, Count}
use Rattle.bpf_semantics.specs.Memory.{stack_index}
use Rattle.bpf_semantics.specs.Step.{is_move_operation, low_bits}
use Rattle.interval.specs.Range.{Bounds, IsRange, single}
use Rattle.interval.specs.Table.{alu_range}
use Rattle.interval.proofs.Sound.{alu_ordered}
use Rattle.interval.proofs.Below.{alu_range_below, end_range_ordered, end_range_below}
use Rattle.range_refine.specs.Refinement.{refinement}
use Rattle.range_refine.proofs.Inside.{all_ranges}
use Rattle.abs_state.specs.declared.kind.Kind.{Kind}
use Rattle.abs_state.specs.declared.kind.Kind.TheVariants.{Nothing, Number, Stack, Args}
use Rattle.abs_state.specs.declared.state.AbsState.{AbsState}
use Rattle.abs_state.specs.State.{kind_of, with_kind, with_known_answer}
use Rattle.abs_state.specs.declared.access.ByteSpan.{ByteSpan}
use Rattle.abs_state.specs.Access.{span_from, span_length, stack_span, buffer_span}
use Rattle.abs_state.specs.Kind.{operand_kind, moved_places, stack_of, args_of, move_kind, binary_kind, operation_kind, number_kind, table_width}
use Rattle.abs_step.specs.Result.{loaded_range, with_span, with_known_store, answer_range, with_buffer, with_buffers, after_call, compared_kind, is_same_register, with_source, with_sides, refined_state, edge_state, end_kind, next_state, jump_state}
use Rattle.acceptance.specs.Description.{IsKind, IsAbsState, IsOfProgram, SendsKnown}
use Rattle.acceptance.proofs.Operands.{IsOperand, single_range, operand_known, operand_fits, branch_operand_fits}
use Rattle.acceptance.proofs.Put.{put_known}
use Rattle.acceptance.proofs.Bytes.{index_is}
use Rattle.acceptance.proofs.Written.{length_initialised}

-- ---- ranges of words

bits_few : (width : Width) (n : ℕ) → n < 2 ^ width_bits width → n < 2 ^ 64
bits_few Bits32 n h = omega arith
bits_few Bits64 n h = h

alu_is_range : (width : Width) (op : Operation) (a b : Bounds) → IsRange a → IsRange b → IsRange (alu_range (width_bits width) op a b)
alu_is_range width op a b p q = record {
  ordered = alu_ordered (width_bits width) op a b p q;
  word = bits_few width _ (alu_range_below (width_bits width) op a b p q);
}

end_few : (width : EndWidth) (n : ℕ) → n < 2 ^ end_bits width → n < 2 ^ 64
end_few Low16 n h = omega arith
end_few Low32 n h = omega arith
end_few Low64 n h = h

-- ---- kinds

stack_known : (o : Option (ℤ × ℤ)) → IsKind (stack_of o)
stack_known None = tt
stack_known (Some places) = tt

args_known : (o : Option (ℤ × ℤ)) → IsKind (args_of o)
args_known None = tt
args_known (Some places) = tt

move_known : (width : Width) (b : Kind) → IsKind b → IsKind (move_kind width b)
move_known Bits32 Nothing h = tt
move_known Bits32 (Number b) h = alu_is_range Bits32 (Binary Mov) b b h h
move_known Bits32 (Stack lo hi) h = tt
move_known Bits32 (Args lo hi) h = tt
move_known Bits64 Nothing h = tt
move_known Bits64 (Number b) h = alu_is_range Bits64 (Binary Mov) b b h h
move_known Bits64 (Stack lo hi) h = tt
move_known Bits64 (Args lo hi) h = tt

binary_known : (width : Width) (op : BinaryOperation) (a b : Kind) → IsKind a → IsKind b → IsKind (binary_kind width op a b)
binary_known Bits32 op Nothing Nothing p q = tt
binary_known Bits32 op Nothing (Number b) p q = tt
binary_known Bits32 op Nothing (Stack lo hi) p q = tt
binary_known Bits32 op Nothing (Args lo hi) p q = tt
binary_known Bits32 op (Number a) Nothing p q = tt
binary_known Bits32 op (Number a) (Number b) p q = alu_is_range Bits32 (Binary op) a b p q
binary_known Bits32 op (Number a) (Stack lo hi) p q = tt
binary_known Bits32 op (Number a) (Args lo hi) p q = tt
binary_known Bits32 op (Stack lo hi) b p q = tt
binary_known Bits32 op (Args lo hi) b p q = tt
binary_known Bits64 op Nothing Nothing p q = tt
binary_known Bits64 op Nothing (Number b) p q = tt
binary_known Bits64 op Nothing (Stack lo hi) p q = tt
binary_known Bits64 op Nothing (Args lo hi) p q = tt
binary_known Bits64 op (Number a) Nothing p q = tt
binary_known Bits64 op (Number a) (Number b) p q = alu_is_range Bits64 (Binary op) a b p q
binary_known Bits64 op (Number a) (Stack lo hi) p q = tt
binary_known Bits64 op (Number a) (Args lo hi) p q = tt
binary_known Bits64 op (Stack lo hi) Nothing p q = tt
binary_known Bits64 op (Stack lo hi) (Number b) p q = stack_known (moved_places op lo hi b)
binary_known Bits64 op (Stack lo hi) (Stack lo2 hi2) p q = tt
binary_known Bits64 op (Stack lo hi) (Args lo2 hi2) p q = tt
binary_known Bits64 op (Args lo hi) Nothing p q = tt
binary_known Bits64 op (Args lo hi) (Number b) p q = args_known (moved_places op lo hi b)
binary_known Bits64 op (Args lo hi) (Stack lo2 hi2) p q = tt
binary_known Bits64 op (Args lo hi) (Args lo2 hi2) p q = tt

either_kind : (t : Bool) (a b : Kind) → IsKind a → IsKind b → IsKind (if t then a else b)
either_kind true a b p q = p
either_kind false a b p q = q

operation_known : (width : Width) (op : BinaryOperation) (a b : Kind) → IsKind a → IsKind b → IsKind (operation_kind width op a b)
operation_known width op a b p q = either_kind (is_move_operation op) (move_kind width b) (binary_kind width op a b) (move_known width b q) (binary_known width op a b p q)

number_known : (width : Width) (op : Operation) (a : Kind) → IsKind a → IsKind (number_kind width op a)
number_known width op Nothing p = tt
number_known width op (Number a) p = alu_is_range width op a a p p
number_known width op (Stack lo hi) p = tt
number_known width op (Args lo hi) p = tt

end_known : (order : ByteOrder) (width : EndWidth) (a : Kind) → IsKind (end_kind order width a)
end_known order width Nothing = tt
end_known order width (Number a) = record {
  ordered = end_range_ordered order width a;
  word = end_few width _ (end_range_below order width a);
}
end_known order width (Stack lo hi) = tt
end_known order width (Args lo hi) = tt

loaded_known : (kind : LoadKind) → IsRange (loaded_range kind)
loaded_known U8 = record { ordered = omega arith; word = omega arith }
loaded_known U16 = record { ordered = omega arith; word = omega arith }
loaded_known U32 = record { ordered = omega arith; word = omega arith }
loaded_known U64 = record { ordered = omega arith; word = omega arith }
loaded_known I8 = record { ordered = omega arith; word = omega arith }
loaded_known I16 = record { ordered = omega arith; word = omega arith }
loaded_known I32 = record { ordered = omega arith; word = omega arith }

-- ---- bytes

-- bytes that lie inside the stack
abbrev AreInside : Option ByteSpan → Type 0
AreInside o = IfSome o (λ bytes. bytes.index + bytes.count ≤ 512)

inside_from : (count : ℕ) (place : ℤ) (o : Option ℕ) → stack_index place count ≡ o → AreInside (span_from count o)
inside_from count place None e = tt
inside_from count place (Some k) e = (index_is (place +ℤ pos 512) count 512 k e).1

reach_inside : (lo hi offset : ℤ) (size : ℕ) → AreInside (stack_span lo hi offset size)
reach_inside lo hi offset size = inside_from (span_length lo hi size) (lo +ℤ offset) (stack_index (lo +ℤ offset) (span_length lo hi size)) refl

either_inside : (t : Bool) (o : Option ByteSpan) → AreInside o → AreInside (if t then o else None)
either_inside true o h = h
either_inside false o h = tt

buffer_inside : (k : Kind) (count : ℕ) → AreInside (buffer_span k count)
buffer_inside Nothing count = tt
buffer_inside (Number r) count = tt
buffer_inside (Stack lo hi) count = either_inside (int_eq lo hi) (span_from count (stack_index lo count)) (inside_from count lo (stack_index lo count) refl)
buffer_inside (Args lo hi) count = tt

bytes_sent : (o : Option ByteSpan) (known : AbsState) → AreInside o → IsAbsState known → IsAbsState (with_span o known)
bytes_sent None known inside h = h
bytes_sent (Some bytes) known inside h = record {
  registers = h.registers;
  kinds = h.kinds;
  stack = length_initialised known.initialised bytes.index bytes.count (omega (arith, h.stack, inside)) ∙ h.stack;
}

either_known : (t : Bool) (a b : AbsState) → IsAbsState a → IsAbsState b → IsAbsState (if t then a else b)
either_known true a b p q = p
either_known false a b p q = q

store_known : (known : AbsState) (k : Kind) (offset : ℤ) (size : ℕ) → IsAbsState known → IsAbsState (with_known_store known k offset size)
store_known known Nothing offset size h = h
store_known known (Number r) offset size h = h
store_known known (Stack lo hi) offset size h = either_known (int_eq lo hi) (with_span (stack_span lo hi offset size) known) known (bytes_sent (stack_span lo hi offset size) known (reach_inside lo hi offset size) h) h
store_known known (Args lo hi) offset size h = h

-- ---- calls

buffer_known : (known : AbsState) (k : Kind) (count : Option ℕ) → IsAbsState known → IsAbsState (with_buffer known k count)
buffer_known known k None h = h
buffer_known known k (Some count) h = bytes_sent (buffer_span k count) known (buffer_inside k count) h

buffers_known : (tables : Tables) (helper : Helper) (known : AbsState) → IsAbsState known → IsAbsState (with_buffers tables helper known)
buffers_known tables RowGet known h = buffer_known known (kind_of known R3) (table_width tables (kind_of known R1)) h
buffers_known tables RowPut known h = h
buffers_known tables RowDelete known h = h
buffers_known tables RangeCount known h = h
buffers_known tables RangeNext known h =
    buffer_known (with_buffer known (kind_of known R4) (Some 8)) (kind_of known R5) (table_width tables (kind_of known R1)) (buffer_known known (kind_of known R4) (Some 8) h)
buffers_known tables Cancel known h = h

answer_known : (answer : AnswerKind) → IsRange (answer_range answer)
answer_known Flag = record { ordered = omega arith; word = omega arith }
answer_known Zero = record { ordered = omega arith; word = omega arith }
answer_known Count = record { ordered = omega arith; word = omega arith }

with_answer_known : (answer : Bounds) (known : AbsState) → IsRange answer → IsAbsState known → IsAbsState (with_known_answer answer known)
with_answer_known answer known p h =
    let one = put_known known R1 Nothing h tt in
    let two = put_known _ R2 Nothing one tt in
    let three = put_known _ R3 Nothing two tt in
    let four = put_known _ R4 Nothing three tt in
    let five = put_known _ R5 Nothing four tt in
    put_known _ R0 (Number answer) five p

call_known : (tables : Tables) (helper : Option Helper) (known : AbsState) → IsAbsState known → IsAbsState (after_call tables helper known)
call_known tables None known h = h
call_known tables (Some helper) known h = with_answer_known (answer_range (answer_of helper)) (with_buffers tables helper known) (answer_known (answer_of helper)) (buffers_known tables helper known h)

-- ---- conditions

low_half : (n : ℕ) → n % 2 ^ 32 < 2 ^ 64
low_half n = omega arith

compared_known : (width : Width) (known : AbsState) (src : Source) → IsAbsState known → IsOperand src → IsKind (compared_kind width known src)
compared_known Bits32 known (source.Immediate immediate) h fits = single_range (cast_unsigned w64 immediate % 2 ^ 32) (low_half (cast_unsigned w64 immediate))
compared_known Bits32 known (source.Register r) h fits = h.kinds r
compared_known Bits64 known src h fits = operand_known known src fits h

source_known : (src : Source) (b : Bounds) (known : AbsState) → IsRange b → IsAbsState known → IsAbsState (with_source src b known)
source_known (source.Immediate immediate) b known p h = h
source_known (source.Register r) b known p h = put_known known r (Number b) h p

sides_known : (dst : Register) (src : Source) (known : AbsState) (o : Option (Bounds × Bounds)) → IfSome o (λ r. IsRange r.0 × IsRange r.1) → IsAbsState known → IfSome (with_sides dst src known o) IsAbsState
sides_known dst src known None p h = tt
sides_known dst src known (Some sides) p h = source_known src sides.1 (with_kind known dst (Number sides.0)) p.1 (put_known known dst (Number sides.0) h p.0)

refined_known : (width : Width) (condition : Condition) (taken : Bool) (dst : Register) (src : Source) (known : AbsState) (a b : Kind) → IsKind a → IsKind b → IsAbsState known → IfSome (refined_state width condition taken dst src known a b) IsAbsState
refined_known width condition taken dst src known (Number a) (Number b) p q h =
    sides_known dst src known (refinement (width_bits width) condition taken a b) (all_ranges (width_bits width) condition taken a b p q) h
refined_known width condition taken dst src known Nothing b p q h = tt
refined_known width condition taken dst src known (Stack lo hi) b p q h = tt
refined_known width condition taken dst src known (Args lo hi) b p q h = tt
refined_known width condition taken dst src known (Number a) Nothing p q h = tt
refined_known width condition taken dst src known (Number a) (Stack lo hi) p q h = tt
refined_known width condition taken dst src known (Number a) (Args lo hi) p q h = tt

either_state : (t : Bool) (a b : Option AbsState) → IfSome a IsAbsState → IfSome b IsAbsState → IfSome (if t then a else b) IsAbsState
either_state true a b p q = p
either_state false a b p q = q

edge_known : (width : Width) (condition : Condition) (taken : Bool) (dst : Register) (src : Source) (known : AbsState) → IsOperand src → IsAbsState known → IfSome (edge_state width condition taken dst src known) IsAbsState
edge_known width condition taken dst src known fits h =
    either_state (is_same_register dst src) (Some known) (refined_state width condition taken dst src known (kind_of known dst) (compared_kind width known src)) h
    (refined_known width condition taken dst src known (kind_of known dst) (compared_kind width known src) (h.kinds dst) (compared_known width known src h fits) h)

-- ---- each form

pub all_send : (tables : Tables) (i : Instruction) (known : AbsState) → IsOfProgram i → IsAbsState known → SendsKnown tables i known
unfolding next_state jump_state
all_send tables (LoadWide dst value) known sound h = record { on = put_known known dst (Number (single value)) h (single_range value sound.0); by_jump = tt }
all_send tables (Load kind dst src offset) known sound h = record { on = put_known known dst (Number (loaded_range kind)) h (loaded_known kind); by_jump = tt }
all_send tables (StoreImmediate size dst offset immediate) known sound h = record { on = store_known known (kind_of known dst) offset (size_bytes size) h; by_jump = tt }
all_send tables (StoreRegister size dst src offset) known sound h = record { on = store_known known (kind_of known dst) offset (size_bytes size) h; by_jump = tt }
all_send tables (Arithmetic width op dst src) known sound h = record {
  on = put_known known dst (operation_kind width op (kind_of known dst) (operand_kind known src)) h
      (operation_known width op (kind_of known dst) (operand_kind known src) (h.kinds dst) (operand_known known src (operand_fits width op dst src sound.0) h));
  by_jump = tt;
}
all_send tables (Negate width dst) known sound h = record { on = put_known known dst (number_kind width Neg (kind_of known dst)) h (number_known width Neg (kind_of known dst) (h.kinds dst)); by_jump = tt }
all_send tables (MoveSignExtended kind dst src) known sound h = record {
  on = put_known known dst (number_kind (extension_width kind) (Movsx (low_bits kind)) (kind_of known src)) h
      (number_known (extension_width kind) (Movsx (low_bits kind)) (kind_of known src) (h.kinds src));
  by_jump = tt;
}
all_send tables (End order width dst) known sound h = record { on = put_known known dst (end_kind order width (kind_of known dst)) h (end_known order width (kind_of known dst)); by_jump = tt }
all_send tables (Jump distance) known sound h = record { on = tt; by_jump = h }
all_send tables (LongJump distance) known sound h = record { on = tt; by_jump = h }
all_send tables (Branch width condition dst src distance) known sound h =
    let fits = branch_operand_fits width condition dst src distance sound.0 in
    record { on = edge_known width condition false dst src known fits h; by_jump = edge_known width condition true dst src known fits h }
all_send tables (Call helper) known sound h = record { on = call_known tables (helper_of helper) known h; by_jump = tt }
all_send tables Exit known sound h = record { on = tt; by_jump = tt }
