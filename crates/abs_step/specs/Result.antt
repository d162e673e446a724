-- What is known after an instruction that has no cause to be refused, on each edge that may be taken.
use Rattle.std.specs.Prelude.{ℕ, ◌*◌, ◌%◌, ◌^◌, ℤ, Bool, true, false, ◌==◌, if◌then◌else◌, Option, Some, None}
use Rattle.std.specs.Int.{w64, cast_unsigned}
use Rattle.std.specs.List.{fold}
use Rattle.std.specs.Ordering.{int_eq}
use Rattle.bpf_words.specs.declared.condition.Condition.{Condition}
use Rattle.bpf_words.specs.declared.operation.Operation.TheVariants.{Neg, Movsx}
use Rattle.bpf_words.specs.declared.operation.ByteOrder.{ByteOrder}
use Rattle.bpf_words.specs.declared.operation.EndWidth.{EndWidth}
use Rattle.bpf_code.specs.declared.instruction.LoadKind.{LoadKind}
use Rattle.bpf_code.specs.declared.instruction.LoadKind.TheVariants.{I8, I16, I32}
use Rattle.bpf_code.specs.declared.instruction.Register.{Register}
use Rattle.bpf_code.specs.declared.instruction.Register.TheVariants.{R1}
use Rattle.bpf_code.specs.declared.instruction.Width.{Width}
use Rattle.bpf_code.specs.declared.instruction.Width.TheVariants.{Bits32}
use Rattle.bpf_code.specs.declared.instruction.Source.{Source}
use Rattle.bpf_code.specs.declared.instruction.Source.TheVariants as source
use Rattle.bpf_code.specs.declared.instruction.Instruction.{Instruction}
use Rattle.bpf_code.specs.declared.instruction.Instruction.TheVariants.{LoadWide, Load, StoreImmediate, StoreRegister, Arithmetic, Negate, MoveSignExtended, End, Jump, LongJump, Branch, Call, Exit}
use Rattle.bpf_code.specs.Register.{number_of}
use Rattle.bpf_code.specs.Sizes.{width_bits, size_bytes, load_bytes, extension_width}
use Rattle.schema.specs.Schema.{Tables}
use Rattle.schema.specs.Helper.{helper_of, answer_of}
use Rattle.schema.specs.declared.helper.Helper.{Helper}
use Rattle.schema.specs.declared.helper.ArgumentKind.{ArgumentKind}
use Rattle.schema.specs.declared.helper.ArgumentKind.TheVariants as argument
use Rattle.schema.specs.declared.helper.AnswerKind.{AnswerKind}
use Rattle.schema.specs.declared.helper.AnswerKind.TheVariants.{Flag, Zero, Count}
use Rattle.bpf_semantics.specs.Step.{low_bits}
use Rattle.interval.specs.Range.{Bounds, from_to, single}
use Rattle.interval.specs.Table.{any_word, end_range}
use Rattle.range_refine.specs.Refinement.{refinement}
use Rattle.abs_state.specs.declared.kind.Kind.{Kind}
use Rattle.abs_state.specs.declared.kind.Kind.TheVariants.{Nothing, Number, Stack}
use Rattle.abs_state.specs.declared.state.AbsState.{AbsState}
use Rattle.abs_state.specs.State.{kind_of, with_known_answer, with_kind, with_initialised}
use Rattle.abs_state.specs.Kind.{operand_kind, operation_kind, number_kind, table_width}
use Rattle.abs_state.specs.declared.access.ByteSpan.{ByteSpan}
use Rattle.abs_state.specs.Access.{stack_span, buffer_span}
use Rattle.abs_step.specs.Cause.{call_arguments}

-- ---- loads and stores

-- a load that zero-extends gives a number of its bytes, one that sign-extends any
abbrev pub loaded_range : LoadKind → Bounds
loaded_range I8 = any_word 64
loaded_range I16 = any_word 64
loaded_range I32 = any_word 64
loaded_range kind = any_word (8 * load_bytes kind)

abbrev pub with_span : Option ByteSpan → AbsState → AbsState
with_span None s = s
with_span (Some bytes) s = with_initialised s bytes.index bytes.count

-- a store at one place initialises its bytes; one at several initialises none
abbrev pub with_known_store : AbsState → Kind → ℤ → ℕ → AbsState
with_known_store s (Stack lo hi) offset size = if int_eq lo hi then with_span (stack_span lo hi offset size) s else s
with_known_store s _ offset size = s

-- ---- calls

abbrev pub answer_range : AnswerKind → Bounds
answer_range Flag = from_to 0 1
answer_range Zero = single 0
answer_range Count = any_word 64

abbrev pub with_buffer : AbsState → Kind → Option ℕ → AbsState
with_buffer s k None = s
with_buffer s k (Some count) = with_span (buffer_span k count) s

-- how many bytes a helper writes to an argument's buffer, where the table has this width
abbrev pub written_length : Option ℕ → ArgumentKind → Option ℕ
written_length width argument.RowWritten = width
written_length width argument.KeyWritten = Some 8
written_length width _ = None

-- each buffer that a helper writes is initialised
abbrev pub with_buffers : Tables → Helper → AbsState → AbsState
with_buffers tables helper s =
    let width = table_width tables (kind_of s R1) in
    fold (λ after a. with_buffer after (kind_of s a.1) (written_length width a.0)) s (call_arguments (Some helper))

abbrev pub after_call : Tables → Option Helper → AbsState → AbsState
after_call tables None s = s
after_call tables (Some helper) s = with_known_answer (answer_range (answer_of helper)) (with_buffers tables helper s)

-- ---- conditions

-- an immediate's 32 bits are read as unsigned by a condition on 32 bits
abbrev pub compared_kind : Width → AbsState → Source → Kind
compared_kind Bits32 s (source.Immediate immediate) = Number (single (cast_unsigned w64 immediate % 2 ^ 32))
compared_kind _ s src = operand_kind s src

abbrev pub is_same_register : Register → Source → Bool
is_same_register dst (source.Immediate _) = false
is_same_register dst (source.Register src) = number_of dst == number_of src

-- an immediate's own refined range is dropped
abbrev pub with_source : Source → Bounds → AbsState → AbsState
with_source (source.Immediate _) b s = s
with_source (source.Register src) b s = with_kind s src (Number b)

abbrev pub with_sides : Register → Source → AbsState → Option (Bounds × Bounds) → Option AbsState
with_sides dst src s None = None
with_sides dst src s (Some sides) = Some (with_source src sides.1 (with_kind s dst (Number sides.0)))

abbrev pub refined_state : Width → Condition → Bool → Register → Source → AbsState → Kind → Kind → Option AbsState
refined_state width condition taken dst src s (Number a) (Number b) =
    with_sides dst src s (refinement (width_bits width) condition taken a b)
refined_state width condition taken dst src s _ _ = None

-- what is known where the condition holds, or doesn't; None where that edge is never taken. A register that is compared
-- with itself tells nothing
abbrev pub edge_state : Width → Condition → Bool → Register → Source → AbsState → Option AbsState
edge_state width condition taken dst src s =
    if is_same_register dst src then Some s else
    refined_state width condition taken dst src s (kind_of s dst) (compared_kind width s src)

-- ---- the edges

abbrev pub end_kind : ByteOrder → EndWidth → Kind → Kind
end_kind order width (Number a) = Number (end_range order width a)
end_kind order width _ = Nothing

-- what goes on to the next instruction
unfoldable pub next_state : Tables → Instruction → AbsState → Option AbsState
next_state tables (LoadWide dst value) s = Some (with_kind s dst (Number (single value)))
next_state tables (Load kind dst _ _) s = Some (with_kind s dst (Number (loaded_range kind)))
next_state tables (StoreImmediate size dst offset _) s = Some (with_known_store s (kind_of s dst) offset (size_bytes size))
next_state tables (StoreRegister size dst _ offset) s = Some (with_known_store s (kind_of s dst) offset (size_bytes size))
next_state tables (Arithmetic width op dst src) s =
    Some (with_kind s dst (operation_kind width op (kind_of s dst) (operand_kind s src)))
next_state tables (Negate width dst) s = Some (with_kind s dst (number_kind width Neg (kind_of s dst)))
next_state tables (MoveSignExtended kind dst src) s =
    Some (with_kind s dst (number_kind (extension_width kind) (Movsx (low_bits kind)) (kind_of s src)))
next_state tables (End order width dst) s = Some (with_kind s dst (end_kind order width (kind_of s dst)))
next_state tables (Jump _) s = None
next_state tables (LongJump _) s = None
next_state tables (Branch width condition dst src _) s = edge_state width condition false dst src s
next_state tables (Call helper) s = Some (after_call tables (helper_of helper) s)
next_state tables Exit s = None

-- what goes to a jump's target
unfoldable pub jump_state : Instruction → AbsState → Option AbsState
jump_state (Jump _) s = Some s
jump_state (LongJump _) s = Some s
jump_state (Branch width condition dst src _) s = edge_state width condition true dst src s
jump_state _ s = None
