-- Values by what is known of them, and the operands of an instruction.
use Rattle.std.proofs.Common.{ℕ, ◌^◌, ◌<◌, ◌≤ℤ◌, ℤ, pos, negsuc, FitsSigned, arith}
use Rattle.std.proofs.Math.Nat.{le_refl}
use Rattle.std.specs.Int.{w32, w64, cast_unsigned}
use Rattle.bpf_words.specs.declared.condition.Condition.{Condition}
use Rattle.bpf_words.specs.declared.operation.BinaryOperation.{BinaryOperation}
use Rattle.bpf_code.specs.declared.instruction.Register.{Register}
use Rattle.bpf_code.specs.declared.instruction.Width.{Width}
use Rattle.bpf_code.specs.declared.instruction.Source.{Source}
use Rattle.bpf_code.specs.declared.instruction.Source.TheVariants as source
use Rattle.bpf_code.specs.declared.instruction.Instruction.TheVariants.{Arithmetic, Branch}
use Rattle.bpf_code.specs.Program.{IsInRange}
use Rattle.bpf_semantics.specs.declared.value.Value.{Value}
use Rattle.bpf_semantics.specs.declared.value.Value.TheVariants as value
use Rattle.bpf_semantics.specs.State.{State}
use Rattle.bpf_semantics.specs.Step.{operand}
use Rattle.interval.specs.Range.{Bounds, IsRange, IsWithin, single}
use Rattle.abs_state.specs.declared.kind.Kind.TheVariants.{Number, Stack, Args}
use Rattle.abs_state.specs.declared.state.AbsState.{AbsState}
use Rattle.abs_state.specs.Kind.{operand_kind}
use Rattle.acceptance.specs.Description.{Describes, IsOf, IsAbsState, IsKind}

-- ---- a value of a kind is of its shape

pub as_number : (P : Value → Type 0) (r : Bounds) (v : Value) → IsOf (Number r) v → ((n : ℕ) → IsWithin r n → P (value.Number n)) → P v
as_number P r (value.Number n) h f = f n h
as_number P r value.Nothing h f = absurd h
as_number P r (value.Stack p) h f = absurd h
as_number P r (value.Args p) h f = absurd h

pub as_stack : (P : Value → Type 0) (lo hi : ℤ) (v : Value) → IsOf (Stack lo hi) v → ((p : ℤ) → lo ≤ℤ p → p ≤ℤ hi → P (value.Stack p)) → P v
as_stack P lo hi (value.Stack p) h f = f p h.0 h.1
as_stack P lo hi value.Nothing h f = absurd h
as_stack P lo hi (value.Number n) h f = absurd h
as_stack P lo hi (value.Args p) h f = absurd h

pub as_args : (P : Value → Type 0) (lo hi : ℤ) (v : Value) → IsOf (Args lo hi) v → ((p : ℤ) → lo ≤ℤ p → p ≤ℤ hi → P (value.Args p)) → P v
as_args P lo hi (value.Args p) h f = f p h.0 h.1
as_args P lo hi value.Nothing h f = absurd h
as_args P lo hi (value.Number n) h f = absurd h
as_args P lo hi (value.Stack p) h f = absurd h

-- ---- operands

pub within_single : (n : ℕ) → IsWithin (single n) n
within_single n = record { from = le_refl n; to = le_refl n }

pub single_range : (n : ℕ) → n < 2 ^ 64 → IsRange (single n)
single_range n h = record { ordered = le_refl n; word = h }

pub operand_described : (args_len : ℕ) (known : AbsState) (s : State) (src : Source) → Describes args_len known s → IsOf (operand_kind known src) (operand s src)
operand_described args_len known s (source.Immediate z) d = within_single (cast_unsigned w64 z)
operand_described args_len known s (source.Register r) d = d.registers r

-- an immediate fits its field
abbrev pub IsOperand : Source → Type 0
IsOperand (source.Immediate z) = FitsSigned w32 z
IsOperand (source.Register r) = Unit {0}

pub operand_fits : (width : Width) (op : BinaryOperation) (dst : Register) (src : Source) → IsInRange (Arithmetic width op dst src) → IsOperand src
operand_fits width op dst (source.Immediate z) fits = fits
operand_fits width op dst (source.Register r) fits = tt

pub branch_operand_fits : (width : Width) (condition : Condition) (dst : Register) (src : Source) (distance : ℤ) → IsInRange (Branch width condition dst src distance) → IsOperand src
branch_operand_fits width condition dst (source.Immediate z) distance fits = fits.0
branch_operand_fits width condition dst (source.Register r) distance fits = tt

pub immediate_below : (z : ℤ) → FitsSigned w32 z → cast_unsigned w64 z < 2 ^ 64
immediate_below (pos n) fits = let h = fits.sfits in omega arith
immediate_below (negsuc n) fits = let h = fits.sfits in omega arith

pub operand_known : (known : AbsState) (src : Source) → IsOperand src → IsAbsState known → IsKind (operand_kind known src)
operand_known known (source.Immediate z) fits a = single_range (cast_unsigned w64 z) (immediate_below z fits)
operand_known known (source.Register r) fits a = a.kinds r
