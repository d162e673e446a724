-- Instructions that give a register a number, of another or of none; jumps without a condition, and EXIT.
use Rattle.std.proofs.Common.{◌≡◌, ℕ, ℤ, pos, negsuc, ◌+◌, false, refl, sym, subst, inr, arith}
use Rattle.std.proofs.lemmas.Int.{ints}
use Rattle.bpf_words.specs.declared.operation.Operation.TheVariants.{Neg, Movsx}
use Rattle.bpf_words.specs.declared.operation.ByteOrder.{ByteOrder}
use Rattle.bpf_words.specs.declared.operation.EndWidth.{EndWidth}
use Rattle.bpf_words.specs.declared.operation.SignExtension.{SignExtension}
use Rattle.bpf_words.specs.Operation.{alu}
use Rattle.bpf_words.specs.End.{end_value}
use Rattle.bpf_code.specs.declared.instruction.Register.{Register}
use Rattle.bpf_code.specs.declared.instruction.Register.TheVariants.{R0}
use Rattle.bpf_code.specs.declared.instruction.Width.{Width}
use Rattle.bpf_code.specs.declared.instruction.SignExtendingMove.{SignExtendingMove}
use Rattle.bpf_code.specs.declared.instruction.Instruction.{Instruction}
use Rattle.bpf_code.specs.declared.instruction.Instruction.TheVariants.{LoadWide, Negate, MoveSignExtended, End, Jump, LongJump, Exit}
use Rattle.bpf_code.specs.Sizes.{width_bits, extension_width}
use Rattle.schema.specs.Schema.{Tables}
use Rattle.bpf_semantics.specs.declared.value.Value.TheVariants as value
use Rattle.bpf_semantics.specs.State.{register}
use Rattle.bpf_semantics.specs.Step.{low_bits, execute}
use Rattle.interval.specs.Range.{Bounds, IsRange, IsWithin, single}
use Rattle.interval.specs.Table.{alu_range}
use Rattle.interval.proofs.Sound.{alu_sound, end_sound}
use Rattle.abs_state.specs.declared.kind.Kind.{Kind}
use Rattle.abs_state.specs.declared.kind.Kind.TheVariants.{Number}
use Rattle.abs_state.specs.State.{kind_of}
use Rattle.abs_state.specs.Kind.{is_nothing, number_kind}
use Rattle.abs_step.specs.Cause.{holds_nothing, uses_pointer}
use Rattle.abs_step.specs.Result.{end_kind, next_state, jump_state}
use Rattle.acceptance.specs.Description.{IsOf, IsStepAlongEdge, IsOfProgram, StepsAlong}
use Rattle.acceptance.proofs.Causes.{no_cause, neither}
use Rattle.acceptance.proofs.Put.{past_described}
use Rattle.acceptance.proofs.Operands.{within_single}
use Rattle.acceptance.proofs.Along.{put_along, with_number, range_known}

pub load_wide_along : (tables : Tables) (args_len : ℕ) (dst : Register) (n : ℕ) → StepsAlong tables args_len (LoadWide dst n)
unfolding execute next_state
load_wide_along tables args_len dst n known s ts a st d e =
    let none = no_cause tables args_len (LoadWide dst n) known e in
    put_along tables args_len 2 (LoadWide dst n) known s dst (Number (single n)) (value.Number n) refl refl none.writes a st d (within_single n)

-- ---- of one number

-- NEG has the destination alone, MOV and MOVSX the source alone
neg_alone : (n a b c : ℕ) → alu n Neg a b ≡ alu n Neg a c
unfolding alu
neg_alone n a b c = refl

movsx_alone : (n : ℕ) (source : SignExtension) (a b c : ℕ) → alu n (Movsx source) a c ≡ alu n (Movsx source) b c
unfolding alu
movsx_alone n source a b c = refl

negate_of : (width : Width) (k : Kind) (r : Bounds) (n : ℕ) → k ≡ Number r → IsRange r → IsWithin r n
    → IsOf (number_kind width Neg k) (value.Number (alu (width_bits width) Neg n 0))
negate_of width k r n e range h =
    subst (λ q. IsOf (number_kind width Neg q) (value.Number (alu (width_bits width) Neg n 0))) (sym e)
    (subst (IsWithin (alu_range (width_bits width) Neg r r)) (neg_alone (width_bits width) n n 0) (alu_sound (width_bits width) Neg r r n n range range h h))

pub negate_along : (tables : Tables) (args_len : ℕ) (width : Width) (dst : Register) → StepsAlong tables args_len (Negate width dst)
unfolding execute next_state holds_nothing uses_pointer
negate_along tables args_len width dst known s ts a st d e =
    let i : Instruction = Negate width dst in
    let none = no_cause tables args_len i known e in
    let something = neither (is_nothing (kind_of known dst)) false none.reads in
    with_number (IsStepAlongEdge tables args_len i known s) (kind_of known dst) (register s dst) _ something.0 none.pointers (d.registers dst)
    (λ r n is at within.
    put_along tables args_len 1 i known s dst (number_kind width Neg (kind_of known dst)) (value.Number (alu (width_bits width) Neg n 0)) refl refl none.writes a st d
    (negate_of width (kind_of known dst) r n is (range_known (kind_of known dst) r is (a.kinds dst)) within))

sign_extended_of : (kind : SignExtendingMove) (k : Kind) (r : Bounds) (n : ℕ) → k ≡ Number r → IsRange r → IsWithin r n
    → IsOf (number_kind (extension_width kind) (Movsx (low_bits kind)) k) (value.Number (alu (width_bits (extension_width kind)) (Movsx (low_bits kind)) 0 n))
sign_extended_of kind k r n e range h =
    subst (λ q. IsOf (number_kind (extension_width kind) (Movsx (low_bits kind)) q) (value.Number (alu (width_bits (extension_width kind)) (Movsx (low_bits kind)) 0 n))) (sym e)
    (subst (IsWithin (alu_range (width_bits (extension_width kind)) (Movsx (low_bits kind)) r r)) (movsx_alone (width_bits (extension_width kind)) (low_bits kind) n 0 n)
    (alu_sound (width_bits (extension_width kind)) (Movsx (low_bits kind)) r r n n range range h h))

end_of : (order : ByteOrder) (width : EndWidth) (k : Kind) (r : Bounds) (n : ℕ) → k ≡ Number r → IsWithin r n → IsOf (end_kind order width k) (value.Number (end_value order width n))
end_of order width k r n e h = subst (λ q. IsOf (end_kind order width q) (value.Number (end_value order width n))) (sym e) (end_sound order width r n h)

pub sign_extended_along : (tables : Tables) (args_len : ℕ) (kind : SignExtendingMove) (dst src : Register) → StepsAlong tables args_len (MoveSignExtended kind dst src)
unfolding execute next_state holds_nothing uses_pointer
sign_extended_along tables args_len kind dst src known s ts a st d e =
    let i : Instruction = MoveSignExtended kind dst src in
    let none = no_cause tables args_len i known e in
    let something = neither (is_nothing (kind_of known src)) false none.reads in
    with_number (IsStepAlongEdge tables args_len i known s) (kind_of known src) (register s src) _ something.0 none.pointers (d.registers src)
    (λ r n is at within.
    put_along tables args_len 1 i known s dst (number_kind (extension_width kind) (Movsx (low_bits kind)) (kind_of known src))
    (value.Number (alu (width_bits (extension_width kind)) (Movsx (low_bits kind)) 0 n)) refl refl none.writes a st d
    (sign_extended_of kind (kind_of known src) r n is (range_known (kind_of known src) r is (a.kinds src)) within))

pub end_along : (tables : Tables) (args_len : ℕ) (order : ByteOrder) (width : EndWidth) (dst : Register) → StepsAlong tables args_len (End order width dst)
unfolding execute next_state holds_nothing uses_pointer
end_along tables args_len order width dst known s ts a st d e =
    let i : Instruction = End order width dst in
    let none = no_cause tables args_len i known e in
    let something = neither (is_nothing (kind_of known dst)) false none.reads in
    with_number (IsStepAlongEdge tables args_len i known s) (kind_of known dst) (register s dst) _ something.0 none.pointers (d.registers dst)
    (λ r n is at within.
    put_along tables args_len 1 i known s dst (end_kind order width (kind_of known dst)) (value.Number (end_value order width n)) refl refl none.writes a st d
    (end_of order width (kind_of known dst) r n is within))

-- ---- a jump, and the end

pub jump_along : (tables : Tables) (args_len : ℕ) (distance : ℤ) → IsOfProgram (Jump distance) → StepsAlong tables args_len (Jump distance)
unfolding execute jump_state
jump_along tables args_len (pos n) sound known s ts a st d e = inr (refl, past_described args_len (1 + n) known s d)
jump_along tables args_len (negsuc n) sound known s ts a st d e = absurd (search (arith, ints, sound.1))

pub long_jump_along : (tables : Tables) (args_len : ℕ) (distance : ℤ) → IsOfProgram (LongJump distance) → StepsAlong tables args_len (LongJump distance)
unfolding execute jump_state
long_jump_along tables args_len (pos n) sound known s ts a st d e = inr (refl, past_described args_len (1 + n) known s d)
long_jump_along tables args_len (negsuc n) sound known s ts a st d e = absurd (search (arith, ints, sound.1))

pub exit_along : (tables : Tables) (args_len : ℕ) → StepsAlong tables args_len Exit
unfolding execute holds_nothing
exit_along tables args_len known s ts a st d e =
    let none = no_cause tables args_len Exit known e in
    let something = neither (is_nothing (kind_of known R0)) false none.reads in
    with_number (IsStepAlongEdge tables args_len Exit known s) (kind_of known R0) (register s R0) _ something.0 none.reply (d.registers R0) (λ r n is at within. tt)
