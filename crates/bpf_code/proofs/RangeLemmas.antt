-- What begins at a slot of a program is in range.
use Rattle.std.proofs.Common.{◌≡◌, ℕ, zero, suc, ◌∷◌, [], Option, Some, None, subst, sym}
use Rattle.std.specs.Prelude.{IfSome}
use Rattle.bpf_code.specs.declared.instruction.Instruction.{Instruction}
use Rattle.bpf_code.specs.Program.{Program, IsProgram, IsInRange, AllInRange, instruction_at}

some_one : (i j : Instruction) → Some i ≡ Some j → i ≡ j
some_one i j e = cc

pub range_at : (p : Program) (slot : ℕ) (i : Instruction) → AllInRange p → instruction_at p slot ≡ Some i → IsInRange i
range_at [] slot i all e = absurd cc
range_at (None ∷ p) zero i all e = absurd cc
range_at (None ∷ p) (suc slot) i all e = range_at p slot i all e
range_at (Some j ∷ p) zero i all e = subst IsInRange (some_one j i e) all.0
range_at (Some j ∷ p) (suc slot) i all e = range_at p slot i all.1 e

pub range_if : (p : Program) (slot : ℕ) (o : Option Instruction) → IsProgram p → o ≡ instruction_at p slot → IfSome o IsInRange
range_if p slot None is e = tt
range_if p slot (Some i) is e = range_at p slot i is.in_range (sym e)
