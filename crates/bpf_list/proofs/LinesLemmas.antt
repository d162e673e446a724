-- The lines of a program, as far as a loop has come.
use Rattle.std.proofs.Common.{◌≡◌, ℕ, zero, suc, ◌+◌, ◌<◌, List, [], ◌∷◌, ◌++◌, length, take, drop, slice_index_or, Option, None, refl, sym, ap, ◌∙◌, append_assoc, arith, add-one, drop-cons, take-append-drop}
use Rattle.std.proofs.lemmas.List.{append-nil, take_more, length-take}
use Rattle.bpf_code.specs.declared.instruction.Instruction.{Instruction}
use Rattle.bpf_code.specs.Program.{Program, instruction_at}
use Rattle.bpf_list.specs.Listing.{line_at, lines}

instruction_at-index : (p : Program) (slot : ℕ) → slot < length p → instruction_at p slot ≡ slice_index_or p slot None
instruction_at-index [] slot within = absurd (omega arith)
instruction_at-index (x ∷ p) zero within = refl
instruction_at-index (x ∷ p) (suc slot) within = instruction_at-index p slot (omega arith)

lines-append : (slot : ℕ) (p q : Program) → lines slot (p ++ q) ≡ lines slot p ++ lines (slot + length p) q
lines-append slot [] q = let same : slot ≡ slot + 0 = omega arith in ap (λ (k : ℕ). lines k q) same
lines-append slot (s ∷ p) q =
    let same : (slot + 1) + length p ≡ slot + suc (length p) = omega arith in
    ap (λ (t : List ℕ). line_at slot s ++ t) (lines-append (slot + 1) p q ∙ ap (λ (k : ℕ). lines (slot + 1) p ++ lines k q) same)
    ∙ sym (append_assoc (line_at slot s) (lines (slot + 1) p) (lines (slot + suc (length p)) q))

-- what stands at a slot, and behind it
split_at : (p : Program) (slot : ℕ) → slot < length p → p ≡ take slot p ++ (instruction_at p slot ∷ drop (slot + 1) p)
split_at p slot within =
    sym (take-append-drop slot p)
    ∙ ap (λ (q : Program). take slot p ++ q) (drop-cons p slot None within ∙ ap (λ (n : ℕ). slice_index_or p slot None ∷ drop n p) (sym (add-one slot)) ∙ ap (λ (s : Option Instruction). s ∷ drop (slot + 1) p) (sym (instruction_at-index p slot within)))

taken : (p : Program) (slot : ℕ) → slot < length p → 0 + length (take slot p) ≡ slot
taken p slot within = omega (arith, length-take slot p)

pub lines-split : (p : Program) (slot : ℕ) → slot < length p → lines 0 p ≡ lines 0 (take slot p) ++ (line_at slot (instruction_at p slot) ++ lines (slot + 1) (drop (slot + 1) p))
lines-split p slot within =
    ap (lines 0) (split_at p slot within) ∙ lines-append 0 (take slot p) (instruction_at p slot ∷ drop (slot + 1) p)
    ∙ ap (λ (k : ℕ). lines 0 (take slot p) ++ lines k (instruction_at p slot ∷ drop (slot + 1) p)) (taken p slot within)

pub lines-take : (p : Program) (slot : ℕ) → slot < length p → lines 0 (take (slot + 1) p) ≡ lines 0 (take slot p) ++ line_at slot (instruction_at p slot)
lines-take p slot within =
    ap (lines 0) (take_more p slot None within ∙ ap (λ (s : Option Instruction). take slot p ++ s ∷ []) (sym (instruction_at-index p slot within)))
    ∙ lines-append 0 (take slot p) (instruction_at p slot ∷ [])
    ∙ ap (λ (k : ℕ). lines 0 (take slot p) ++ lines k (instruction_at p slot ∷ [])) (taken p slot within)
    ∙ ap (λ (t : List ℕ). lines 0 (take slot p) ++ t) (append-nil (line_at slot (instruction_at p slot)))
