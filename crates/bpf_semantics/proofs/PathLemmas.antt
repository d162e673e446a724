-- The longest path has no more instructions than the program.
use Rattle.std.proofs.Common.{◌≡◌, ℕ, zero, suc, ℤ, pos, negsuc, ◌+◌, ◌≤◌, [], ◌∷◌, length, drop, Option, Some, None, refl, subst, arith}
use Rattle.std.proofs.lemmas.List.{drop-drop}
use Rattle.bpf_code.specs.declared.instruction.Instruction.{Instruction}
use Rattle.bpf_code.specs.declared.instruction.Instruction.TheVariants.{LoadWide, Load, StoreImmediate, StoreRegister, Arithmetic, Negate, MoveSignExtended, End, Jump, LongJump, Branch, Call, Exit}
use Rattle.bpf_code.specs.Program.{Program, instruction_at, distance_of}
use Rattle.bpf_semantics.specs.Path.{fall_through, slots_of_jump, jump_of, from_there, one_more, path, longest_path, instructions}
use Rattle.bpf_semantics.proofs.StepLemmas.{just}

counts-drop : (p : Program) (n : ℕ) → instructions (drop n p) ≤ instructions p
counts-drop p zero = omega arith
counts-drop [] (suc n) = omega arith
counts-drop (None ∷ p) (suc n) = counts-drop p n
counts-drop (Some i ∷ p) (suc n) =
    let rest = counts-drop p n in
    let more : instructions (drop n p) ≤ 1 + instructions p = omega arith in
    more

counts-further : (p : Program) (a n : ℕ) → instructions (drop (a + n) p) ≤ instructions (drop a p)
counts-further p a n = subst (λ (q : Program). instructions q ≤ instructions (drop a p)) (drop-drop n a p) (counts-drop (drop a p) n)

counts-here : (p : Program) (slot : ℕ) (i : Instruction) → instruction_at p slot ≡ just i → instructions (drop slot p) ≡ 1 + instructions (drop (suc slot) p)
counts-here [] slot i e = absurd cc
counts-here (None ∷ p) zero i e = absurd cc
counts-here (Some j ∷ p) zero i e = refl
counts-here (s ∷ p) (suc slot) i e = counts-here p slot i e

-- a place that is at least one slot further
there : (f : ℕ → ℕ) (p : Program) (slot : ℕ) (o : Option ℕ) → ((n : ℕ) → o ≡ just n → 1 ≤ n) → ((k : ℕ) → f k ≤ instructions (drop k p)) → from_there f slot o ≤ instructions (drop (suc slot) p)
there f p slot None further bound = omega arith
there f p slot (Some zero) further bound = let bad = further zero refl in absurd (omega arith)
there f p slot (Some (suc n)) further bound =
    let same : slot + suc n ≡ suc slot + n = omega arith in
    let most : f (slot + suc n) ≤ instructions (drop (suc slot + n) p) = subst (λ (k : ℕ). f (slot + suc n) ≤ instructions (drop k p)) same (bound (slot + suc n)) in
    let less = counts-further p (suc slot) n in
    omega arith

number_is : (m n : ℕ) → just m ≡ just n → m ≡ n
number_is m n e = cc

pub fall_further : (i : Instruction) (n : ℕ) → fall_through i ≡ just n → 1 ≤ n
fall_further (LoadWide a b) n e = let h = number_is 2 n e in omega arith
fall_further (Load a b c d) n e = let h = number_is 1 n e in omega arith
fall_further (StoreImmediate a b c d) n e = let h = number_is 1 n e in omega arith
fall_further (StoreRegister a b c d) n e = let h = number_is 1 n e in omega arith
fall_further (Arithmetic a b c d) n e = let h = number_is 1 n e in omega arith
fall_further (Negate a b) n e = let h = number_is 1 n e in omega arith
fall_further (MoveSignExtended a b c) n e = let h = number_is 1 n e in omega arith
fall_further (End a b c) n e = let h = number_is 1 n e in omega arith
fall_further (Jump a) n e = absurd cc
fall_further (LongJump a) n e = absurd cc
fall_further (Branch a b c d f) n e = let h = number_is 1 n e in omega arith
fall_further (Call a) n e = let h = number_is 1 n e in omega arith
fall_further Exit n e = absurd cc

pub jump_further : (d : Option ℤ) (n : ℕ) → slots_of_jump d ≡ just n → 1 ≤ n
jump_further (Some (pos d)) n e = let h = number_is (1 + d) n e in omega arith
jump_further (Some (negsuc d)) n e = absurd cc
jump_further None n e = absurd cc

pub path-le : (p : Program) (most slot : ℕ) → path p most slot ≤ instructions (drop slot p)
unfolding path
path-le p zero slot = omega arith
path-le p (suc most) slot =
    elim (instruction_at p slot) as (λ o. instruction_at p slot ≡ o → one_more (path p most) slot o ≤ instructions (drop slot p)) [
      | None ↦ λ e. omega arith
      | Some i ↦ λ e.
          let here = counts-here p slot i e in
          let a = there (path p most) p slot (fall_through i) (fall_further i) (path-le p most) in
          let b = there (path p most) p slot (jump_of i) (jump_further (distance_of i)) (path-le p most) in
          omega arith
    ] refl

pub longest_path-le : (p : Program) → longest_path p ≤ instructions p
longest_path-le p = path-le p (length p) 0
