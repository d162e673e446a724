-- A program doesn't run off its end: behind each instruction, and where it jumps to, there is one.
use Rattle.std.proofs.Common.{◌≡◌, ◌≢◌, ◌⊎◌, inl, inr, ℕ, zero, suc, ℤ, pos, negsuc, Bool, true, false, ◌+◌, ◌-◌, ◌<◌, ◌≤◌, List, [], ◌∷◌, length, Option, Some, None, refl, sym, ap, subst, ◌∙◌, arith}
use Rattle.std.specs.Prelude.{IsSome}
use Rattle.bpf_code.specs.declared.instruction.Instruction.{Instruction}
use Rattle.bpf_code.specs.declared.instruction.Instruction.TheVariants.{LoadWide, Load, StoreImmediate, StoreRegister, Arithmetic, Negate, MoveSignExtended, End, Jump, LongJump, Branch, Call, Exit}
use Rattle.bpf_code.specs.Program.{Program, instruction_at, is_wide, AreSlots, distance_of, Lands, IsProgram}
use Rattle.bpf_semantics.specs.Path.{fall_through, slots_of_jump, jump_of}
use Rattle.bpf_semantics.proofs.StepLemmas.{just, some_is}

-- one slot on, or two behind a wide load
wide_or_not : (i : Instruction) (n : ℕ) → fall_through i ≡ just n → ((is_wide i ≡ true) × (n ≡ 2)) ⊎ ((is_wide i ≡ false) × (n ≡ 1))
wide_or_not (LoadWide a b) n e = inl (refl, sym (some_is 2 n e))
wide_or_not (Load a b c d) n e = inr (refl, sym (some_is 1 n e))
wide_or_not (StoreImmediate a b c d) n e = inr (refl, sym (some_is 1 n e))
wide_or_not (StoreRegister a b c d) n e = inr (refl, sym (some_is 1 n e))
wide_or_not (Arithmetic a b c d) n e = inr (refl, sym (some_is 1 n e))
wide_or_not (Negate a b) n e = inr (refl, sym (some_is 1 n e))
wide_or_not (MoveSignExtended a b c) n e = inr (refl, sym (some_is 1 n e))
wide_or_not (End a b c) n e = inr (refl, sym (some_is 1 n e))
wide_or_not (Jump a) n e = absurd cc
wide_or_not (LongJump a) n e = absurd cc
wide_or_not (Branch a b c d f) n e = inr (refl, sym (some_is 1 n e))
wide_or_not (Call a) n e = inr (refl, sym (some_is 1 n e))
wide_or_not Exit n e = absurd cc

-- of slots that are such, at the first an instruction begins, where there is one
pub first_begins : (p : Program) → AreSlots false p → 0 < length p → IsSome (instruction_at p 0)
unfolding AreSlots
first_begins [] slots some = absurd (omega arith)
first_begins (None ∷ p) slots some = absurd slots
first_begins (Some i ∷ p) slots some = refl

-- what follows an instruction that begins at a slot
follows : (p : Program) (due : Bool) (slot : ℕ) (i : Instruction) → AreSlots due p → instruction_at p slot ≡ just i → is_wide i ≡ false → slot + 1 < length p → IsSome (instruction_at p (slot + 1))
unfolding AreSlots
follows [] due slot i slots e short within = absurd (omega arith)
follows (None ∷ p) false slot i slots e short within = absurd slots
follows (None ∷ p) true zero i slots e short within = absurd cc
follows (None ∷ p) true (suc slot) i slots e short within = let same : suc slot + 1 ≡ suc (slot + 1) = omega arith in subst (λ (k : ℕ). IsSome (instruction_at (None ∷ p) k)) (sym same) (follows p false slot i slots e short (omega arith))
follows (Some j ∷ p) true slot i slots e short within = absurd slots
follows (Some j ∷ p) false zero i slots e short within =
    let narrow : is_wide j ≡ false = ap is_wide (some_is j i e) ∙ short in
    first_begins p (subst (λ (b : Bool). AreSlots b p) narrow slots) (omega arith)
follows (Some j ∷ p) false (suc slot) i slots e short within =
    let same : suc slot + 1 ≡ suc (slot + 1) = omega arith in
    subst (λ (k : ℕ). IsSome (instruction_at (Some j ∷ p) k)) (sym same) (follows p (is_wide j) slot i slots e short (omega arith))

-- behind a wide load its second half
second : (p : Program) → AreSlots true p → instruction_at p 0 ≡ None
unfolding AreSlots
second [] slots = absurd slots
second (None ∷ p) slots = refl
second (Some i ∷ p) slots = absurd slots

behind_second : (p : Program) → AreSlots true p → 1 < length p → IsSome (instruction_at p 1)
unfolding AreSlots
behind_second [] slots within = absurd slots
behind_second (None ∷ p) slots within = first_begins p slots (omega arith)
behind_second (Some i ∷ p) slots within = absurd slots

shifted : (s : Option Instruction) (p : Program) (slot : ℕ) → (instruction_at p (slot + 1) ≡ None) × (slot + 2 < length p → IsSome (instruction_at p (slot + 2)))
    → (instruction_at (s ∷ p) (suc slot + 1) ≡ None) × (suc slot + 2 < length (s ∷ p) → IsSome (instruction_at (s ∷ p) (suc slot + 2)))
shifted s p slot h =
    let one : suc slot + 1 ≡ suc (slot + 1) = omega arith in
    let two : suc slot + 2 ≡ suc (slot + 2) = omega arith in
    (ap (instruction_at (s ∷ p)) one ∙ h.0, λ within. subst (λ (k : ℕ). IsSome (instruction_at (s ∷ p) k)) (sym two) (h.1 (omega arith)))

wide_follows : (p : Program) (due : Bool) (slot : ℕ) (i : Instruction) → AreSlots due p → instruction_at p slot ≡ just i → is_wide i ≡ true
    → (instruction_at p (slot + 1) ≡ None) × (slot + 2 < length p → IsSome (instruction_at p (slot + 2)))
unfolding AreSlots
wide_follows [] due slot i slots e wide = absurd cc
wide_follows (None ∷ p) false slot i slots e wide = absurd slots
wide_follows (None ∷ p) true zero i slots e wide = absurd cc
wide_follows (None ∷ p) true (suc slot) i slots e wide = shifted None p slot (wide_follows p false slot i slots e wide)
wide_follows (Some j ∷ p) true slot i slots e wide = absurd slots
wide_follows (Some j ∷ p) false zero i slots e wide =
    let is : is_wide j ≡ true = ap is_wide (some_is j i e) ∙ wide in
    let rest = subst (λ (b : Bool). AreSlots b p) is slots in
    (second p rest, λ within. behind_second p rest (omega arith))
wide_follows (Some j ∷ p) false (suc slot) i slots e wide = shifted (Some j) p slot (wide_follows p (is_wide j) slot i slots e wide)

begins_inside : (p : Program) (slot : ℕ) (i : Instruction) → instruction_at p slot ≡ just i → slot < length p
begins_inside [] slot i e = absurd cc
begins_inside (s ∷ p) zero i e = omega arith
begins_inside (s ∷ p) (suc slot) i e = let rest = begins_inside p slot i e in omega arith

no_end : (i : Instruction) (n : ℕ) → fall_through i ≡ just n → just i ≡ just Exit → ⊥
no_end i n through e = let is = some_is i Exit e in let bad : fall_through Exit ≡ just n = ap fall_through (sym is) ∙ through in cc

pub next_begins : (p : Program) (slot n : ℕ) (i : Instruction) → IsProgram p → instruction_at p slot ≡ just i → fall_through i ≡ just n → IsSome (instruction_at p (slot + n))
next_begins p slot n i is e through =
    let inside = begins_inside p slot i e in
    let last : slot ≢ length p - 1 = λ h. no_end i n through (sym e ∙ ap (instruction_at p) h ∙ is.ends) in
    elim (wide_or_not i n through) [
      | inl wide ↦
          let after = wide_follows p false slot i is.slots e wide.0 in
          let not_last : slot + 1 ≢ length p - 1 = λ h. let bad : None ≡ just Exit = sym after.0 ∙ ap (instruction_at p) h ∙ is.ends in cc in
          let two = wide.1 in
          subst (λ (k : ℕ). IsSome (instruction_at p (slot + k))) (sym wide.1) (after.1 (omega arith))
      | inr narrow ↦ let one = narrow.1 in subst (λ (k : ℕ). IsSome (instruction_at p (slot + k))) (sym narrow.1) (follows p false slot i is.slots e narrow.0 (omega arith))
    ]

lands : (p : Program) (slot n : ℕ) (d : Option ℤ) → ((z : ℤ) → d ≡ just z → Lands p slot z) → slots_of_jump d ≡ just n → IsSome (instruction_at p (slot + n))
lands p slot n None h e = absurd cc
lands p slot n (Some (pos d)) h e =
    let same : slot + 1 + d ≡ slot + n = let k = some_is (1 + d) n e in omega arith in
    subst (λ (k : ℕ). IsSome (instruction_at p k)) same (h (pos d) refl)
lands p slot n (Some (negsuc d)) h e = absurd cc

pub jump_begins : (p : Program) (slot n : ℕ) (i : Instruction) → IsProgram p → instruction_at p slot ≡ just i → jump_of i ≡ just n → IsSome (instruction_at p (slot + n))
jump_begins p slot n i is e jumps = lands p slot n (distance_of i) (λ z distance. is.jumps slot i z e distance) jumps
