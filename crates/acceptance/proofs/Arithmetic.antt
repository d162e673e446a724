-- Operations on two values: what is known of the result.
use Rattle.std.specs.List.{list_any}
use Rattle.std.proofs.Common.{◌≡◌, ◌∷◌, ℕ, ℤ, Bool, true, false, cond, Option, is_none, option_map, refl, sym, ap, subst, ◌∙◌}
use Rattle.std.specs.Int.{w64, cast_signed}
use Rattle.bpf_words.specs.declared.operation.BinaryOperation.{BinaryOperation}
use Rattle.bpf_words.specs.declared.operation.BinaryOperation.TheVariants.{Add, Sub, Mov}
use Rattle.bpf_words.specs.declared.operation.Operation.TheVariants.{Binary}
use Rattle.bpf_words.specs.Operation.{alu, binary_value}
use Rattle.bpf_code.specs.declared.instruction.Register.{Register}
use Rattle.bpf_code.specs.declared.instruction.Width.{Width}
use Rattle.bpf_code.specs.declared.instruction.Width.TheVariants.{Bits32, Bits64}
use Rattle.bpf_code.specs.declared.instruction.Source.{Source}
use Rattle.bpf_code.specs.declared.instruction.Source.TheVariants as source
use Rattle.bpf_code.specs.declared.instruction.Instruction.{Instruction}
use Rattle.bpf_code.specs.declared.instruction.Instruction.TheVariants.{Arithmetic}
use Rattle.bpf_code.specs.Sizes.{width_bits}
use Rattle.schema.specs.Schema.{Tables}
use Rattle.bpf_semantics.specs.declared.value.Value.{Value}
use Rattle.bpf_semantics.specs.declared.value.Value.TheVariants as value
use Rattle.bpf_semantics.specs.State.{register}
use Rattle.bpf_semantics.specs.Step.{Moment, or_stuck, operand, is_move_operation, move_result, place_result, binary_result, operation_result, execute}
use Rattle.bpf_semantics.proofs.StepLemmas.{just}
use Rattle.interval.specs.Range.{Bounds, IsRange, IsWithin}
use Rattle.interval.specs.Table.{alu_range}
use Rattle.interval.proofs.Sound.{alu_sound}
use Rattle.abs_state.specs.declared.kind.Kind.{Kind}
use Rattle.abs_state.specs.declared.kind.Kind.TheVariants.{Nothing, Number, Stack, Args}
use Rattle.abs_state.specs.declared.state.AbsState.{AbsState}
use Rattle.abs_state.specs.State.{kind_of}
use Rattle.abs_state.specs.Kind.{is_nothing, operand_kind, moved_places, stack_of, args_of, move_kind, binary_kind, operation_kind}
use Rattle.abs_step.specs.Cause.{source_registers, move_uses_pointer, binary_uses_pointer, operands_use_pointer, holds_nothing, uses_pointer}
use Rattle.abs_step.specs.Result.{next_state}
use Rattle.acceptance.specs.Description.{IsOf, IsKind, IsStepAlongEdge, IsOfProgram, StepsAlong}
use Rattle.acceptance.proofs.Causes.{no_cause, neither}
use Rattle.acceptance.proofs.Along.{put_along}
use Rattle.acceptance.proofs.Moves.{place_by, moved_between}
use Rattle.acceptance.proofs.Operands.{as_number, as_stack, as_args, operand_fits, operand_described, operand_known}

-- there is a result, and it is of the kind
pub record Gives (result : Option Value) (k : Kind) : Type 0 where
  pub value : Value
  pub is : result ≡ just value
  pub of : IsOf k value

pub gives_along : (P : Moment → Type 0) (result : Option Value) (k : Kind) (next : Value → Moment) → Gives result k → ((v : Value) → IsOf k v → P (next v)) → P (or_stuck result next)
unfolding or_stuck
gives_along P result k next g f = subst (λ o. P (or_stuck o next)) (sym g.is) (f g.value g.of)

-- ---- MOV

mov_alone : (n a b c : ℕ) → alu n (Binary Mov) a c ≡ alu n (Binary Mov) b c
unfolding alu binary_value
mov_alone n a b c = refl

move_of : (width : Width) (b : Kind) (y : Value) → IsKind b → is_nothing b ≡ false → move_uses_pointer width b ≡ false → IsOf b y → Gives (move_result width y) (move_kind width b)
move_of width Nothing y range something plain h = absurd cc
move_of width (Number r) y range something plain h =
    as_number (λ u. Gives (move_result width u) (move_kind width (Number r))) r y h (λ n within. record {
      value = value.Number (alu (width_bits width) (Binary Mov) 0 n);
      is = refl;
      of = subst (IsWithin (alu_range (width_bits width) (Binary Mov) r r)) (mov_alone (width_bits width) n 0 n) (alu_sound (width_bits width) (Binary Mov) r r n n range range within within);
    })
move_of Bits64 (Stack lo hi) y range something plain h =
    as_stack (λ u. Gives (move_result Bits64 u) (Stack lo hi)) lo hi y h (λ p low high. record { value = value.Stack p; is = refl; of = (low, high) })
move_of Bits64 (Args lo hi) y range something plain h =
    as_args (λ u. Gives (move_result Bits64 u) (Args lo hi)) lo hi y h (λ p low high. record { value = value.Args p; is = refl; of = (low, high) })
move_of Bits32 (Stack lo hi) y range something plain h = absurd cc
move_of Bits32 (Args lo hi) y range something plain h = absurd cc

-- ---- a pointer and a number

stack_by : (op : BinaryOperation) (p : ℤ) (n : ℕ) → place_result Bits64 op (value.Stack p) n ≡ option_map (λ q. value.Stack q) (place_by op p (cast_signed w64 n))
stack_by Add p n = refl
stack_by Sub p n = refl
stack_by op p n = refl

args_by : (op : BinaryOperation) (p : ℤ) (n : ℕ) → place_result Bits64 op (value.Args p) n ≡ option_map (λ q. value.Args q) (place_by op p (cast_signed w64 n))
args_by Add p n = refl
args_by Sub p n = refl
args_by op p n = refl

stack_moved : (op : BinaryOperation) (lo hi : ℤ) (r : Bounds) (x y : Value) → IsRange r → is_none (moved_places op lo hi r) ≡ false → IsOf (Stack lo hi) x → IsOf (Number r) y
    → Gives (binary_result Bits64 op x y) (stack_of (moved_places op lo hi r))
stack_moved op lo hi r x y range near h g =
    as_stack (λ u. Gives (binary_result Bits64 op u y) (stack_of (moved_places op lo hi r))) lo hi x h (λ p low high.
    as_number (λ u. Gives (binary_result Bits64 op (value.Stack p) u) (stack_of (moved_places op lo hi r))) r y g (λ n within.
    let b = moved_between op lo hi p r n low high range within near in
    record {
      value = value.Stack b.at;
      is = stack_by op p n ∙ ap (λ o. option_map (λ q. value.Stack q) o) b.is;
      of = subst (λ o. IsOf (stack_of o) (value.Stack b.at)) (sym b.known) (b.low, b.high);
    }))

args_moved : (op : BinaryOperation) (lo hi : ℤ) (r : Bounds) (x y : Value) → IsRange r → is_none (moved_places op lo hi r) ≡ false → IsOf (Args lo hi) x → IsOf (Number r) y
    → Gives (binary_result Bits64 op x y) (args_of (moved_places op lo hi r))
args_moved op lo hi r x y range near h g =
    as_args (λ u. Gives (binary_result Bits64 op u y) (args_of (moved_places op lo hi r))) lo hi x h (λ p low high.
    as_number (λ u. Gives (binary_result Bits64 op (value.Args p) u) (args_of (moved_places op lo hi r))) r y g (λ n within.
    let b = moved_between op lo hi p r n low high range within near in
    record {
      value = value.Args b.at;
      is = args_by op p n ∙ ap (λ o. option_map (λ q. value.Args q) o) b.is;
      of = subst (λ o. IsOf (args_of o) (value.Args b.at)) (sym b.known) (b.low, b.high);
    }))

-- ---- two operands

numbers_of : (width : Width) (op : BinaryOperation) (a b : Bounds) (x y : Value) → IsRange a → IsRange b → IsOf (Number a) x → IsOf (Number b) y
    → Gives (binary_result width op x y) (Number (alu_range (width_bits width) (Binary op) a b))
numbers_of width op a b x y ra rb h g =
    as_number (λ u. Gives (binary_result width op u y) (Number (alu_range (width_bits width) (Binary op) a b))) a x h (λ m wm.
    as_number (λ u. Gives (binary_result width op (value.Number m) u) (Number (alu_range (width_bits width) (Binary op) a b))) b y g (λ n wn.
    record { value = value.Number (alu (width_bits width) (Binary op) m n); is = refl; of = alu_sound (width_bits width) (Binary op) a b m n ra rb wm wn }))

binary_of : (width : Width) (op : BinaryOperation) (a b : Kind) (x y : Value) → IsKind a → IsKind b → is_nothing a ≡ false → is_nothing b ≡ false
    → binary_uses_pointer width op a b ≡ false → IsOf a x → IsOf b y → Gives (binary_result width op x y) (binary_kind width op a b)
binary_of width op (Number a) (Number b) x y ra rb p q plain h g = numbers_of width op a b x y ra rb h g
binary_of Bits64 op (Stack lo hi) (Number r) x y ra rb p q plain h g = stack_moved op lo hi r x y rb plain h g
binary_of Bits64 op (Args lo hi) (Number r) x y ra rb p q plain h g = args_moved op lo hi r x y rb plain h g
binary_of width op Nothing b x y ra rb p q plain h g = absurd cc
binary_of width op a Nothing x y ra rb p q plain h g = absurd cc
binary_of Bits32 op a b x y ra rb p q plain h g = absurd cc
binary_of Bits64 op a b x y ra rb p q plain h g = absurd cc

gives_either : (m : Bool) (o p : Option Value) (k l : Kind) → (m ≡ true → Gives o k) → (m ≡ false → Gives p l) → Gives (cond m o p) (cond m k l)
gives_either true o p k l f g = f refl
gives_either false o p k l f g = g refl

use_either : (m b c : Bool) → cond m b c ≡ false → (m ≡ true → b ≡ false) × (m ≡ false → c ≡ false)
use_either true b c e = (λ t. e, λ t. absurd cc)
use_either false b c e = (λ t. absurd cc, λ t. e)

operation_of : (width : Width) (op : BinaryOperation) (a b : Kind) (x y : Value) → IsKind a → IsKind b → (is_move_operation op ≡ false → is_nothing a ≡ false) → is_nothing b ≡ false
    → operands_use_pointer width op a b ≡ false → IsOf a x → IsOf b y → Gives (operation_result width op x y) (operation_kind width op a b)
unfolding operation_result
operation_of width op a b x y ra rb p q plain h g =
    let plainly = use_either (is_move_operation op) (move_uses_pointer width b) (binary_uses_pointer width op a b) plain in
    gives_either (is_move_operation op) (move_result width y) (binary_result width op x y) (move_kind width b) (binary_kind width op a b)
    (λ t. move_of width b y rb q (plainly.0 t) g)
    (λ t. binary_of width op a b x y ra rb (p t) q (plainly.1 t) h g)

-- ---- the instruction

-- what a source reads isn't nothing
pub source_something : (known : AbsState) (src : Source) → list_any (λ r. is_nothing (kind_of known r)) (source_registers src) ≡ false → is_nothing (operand_kind known src) ≡ false
source_something known (source.Immediate z) e = refl
source_something known (source.Register r) e = (neither (is_nothing (kind_of known r)) false e).0

operands_something : (m : Bool) (known : AbsState) (dst : Register) (src : Source)
    → list_any (λ r. is_nothing (kind_of known r)) (cond m (source_registers src) (dst ∷ source_registers src)) ≡ false
    → (m ≡ false → is_nothing (kind_of known dst) ≡ false) × (is_nothing (operand_kind known src) ≡ false)
operands_something true known dst src e = (λ t. absurd cc, source_something known src e)
operands_something false known dst src e =
    let each = neither (is_nothing (kind_of known dst)) (list_any (λ r. is_nothing (kind_of known r)) (source_registers src)) e in
    (λ t. each.0, source_something known src each.1)

pub arithmetic_along : (tables : Tables) (args_len : ℕ) (width : Width) (op : BinaryOperation) (dst : Register) (src : Source)
    → IsOfProgram (Arithmetic width op dst src) → StepsAlong tables args_len (Arithmetic width op dst src)
unfolding execute next_state holds_nothing uses_pointer
arithmetic_along tables args_len width op dst src sound known s ts a st d e =
    let i : Instruction = Arithmetic width op dst src in
    let none = no_cause tables args_len i known e in
    let something = operands_something (is_move_operation op) known dst src none.reads in
    let result = operation_kind width op (kind_of known dst) (operand_kind known src) in
    let gives = operation_of width op (kind_of known dst) (operand_kind known src) (register s dst) (operand s src)
    (a.kinds dst) (operand_known known src (operand_fits width op dst src sound.0) a) something.0 something.1 none.pointers (d.registers dst) (operand_described args_len known s src d) in
    gives_along (IsStepAlongEdge tables args_len i known s) (operation_result width op (register s dst) (operand s src)) result _ gives
    (λ v of. put_along tables args_len 1 i known s dst result v refl refl none.writes a st d of)
