-- The list so far.
use Rattle.std.proofs.Common.{◌≡◌, ◌<◌, ◌+◌, ℕ, zero, suc, List, [], ◌∷◌, ◌++◌, length, slice_get, Option, Some, None, refl, inl, inr, sym, ◌∙◌, ap, subst, arith}
use Rattle.std.proofs.lemmas.Bool.{cases_lt}
use Rattle.std.proofs.lemmas.Option.{slice_get_past}
use Rattle.std.specs.Option.{option_map}
use Rattle.bpf_code.specs.declared.instruction.Instruction.{Instruction}
use Rattle.bpf_code.specs.Program.{Program, instruction_at}
use Rattle.flat_code.specs.declared.instruction.FlatInstruction.{FlatInstruction}
use Rattle.flat_code.specs.Flat.{instruction_of}

before_last : {X : Type 0} (xs : List X) (x : X) (i : ℕ) → i < length xs → slice_get (xs ++ x ∷ []) i ≡ slice_get xs i
before_last [] x i below = absurd (omega arith)
before_last (y ∷ ys) x zero below = refl
before_last (y ∷ ys) x (suc i) below = before_last ys x i (omega arith)

the_last : {X : Type 0} (xs : List X) (x : X) (i : ℕ) → length xs ≡ i → slice_get (xs ++ x ∷ []) i ≡ Some x
the_last [] x zero is = refl
the_last [] x (suc i) is = absurd (omega arith)
the_last (y ∷ ys) x zero is = absurd (omega arith)
the_last (y ∷ ys) x (suc i) is = the_last ys x i (omega arith)

pub laid_further : (p : Program) (flat : List FlatInstruction) (one : FlatInstruction) (n : ℕ) → length flat ≡ n
    → ((slot : ℕ) (i : Instruction) → slot < n → instruction_at p slot ≡ Some i → option_map instruction_of (slice_get flat slot) ≡ Some i)
    → ((i : Instruction) → instruction_at p n ≡ Some i → instruction_of one ≡ i)
    → (slot : ℕ) (i : Instruction) → slot < n + 1 → instruction_at p slot ≡ Some i → option_map instruction_of (slice_get (flat ++ one ∷ []) slot) ≡ Some i
laid_further p flat one n long each last slot i below at = elim (cases_lt slot n) [
  | inl h ↦ let inside : slot < length flat = omega arith in ap (λ (o : Option FlatInstruction). option_map instruction_of o) (before_last flat one slot inside) ∙ each slot i h at
  | inr h ↦
      let is : slot ≡ n = omega arith in
      let long_is : length flat ≡ slot = long ∙ sym is in
      ap (λ (o : Option FlatInstruction). option_map instruction_of o) (the_last flat one slot long_is) ∙ ap (λ (j : Instruction). Some j) (last i (subst (λ (k : ℕ). instruction_at p k ≡ Some i) is at))
]

pub slot_within : (p : Program) (slot : ℕ) (i : Instruction) → instruction_at p slot ≡ Some i → slot < length p
slot_within p slot i e = elim (cases_lt slot (length p)) [
  | inl h ↦ h
  | inr h ↦ let none : instruction_at p slot ≡ None = rw (slice_get_past p slot h) in absurd cc
]
