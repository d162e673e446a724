-- The jumps' faults, slot by slot, and what their absence says.
use Rattle.std.proofs.Common.{◌≡◌, ℕ, ◌+◌, ◌≤◌, ◌<◌, length, drop, slice_index_or, Option, Some, None, sym, ap, ◌∙◌, add-one, drop-cons}
use Rattle.std.proofs.lemmas.List.{drop_all}
use Rattle.bpf_bytes.specs.declared.fault.DecodeFault.{DecodeFault}
use Rattle.bpf_code.specs.Program.{Program}
use Rattle.bpf_bytes.specs.Decoding.{or_else, jump_fault, jump_faults}

-- the first fault from a slot on is its own or one of those behind it
jump_faults-drop : (p : Program) (slot : ℕ) → slot < length p
    → jump_faults p slot (drop slot p) ≡ or_else (jump_fault p slot (slice_index_or p slot None)) (jump_faults p (slot + 1) (drop (slot + 1) p))
unfolding jump_faults
jump_faults-drop p slot within =
    ap (jump_faults p slot) (drop-cons p slot None within)
    ∙ ap (λ (n : ℕ). or_else (jump_fault p slot (slice_index_or p slot None)) (jump_faults p (slot + 1) (drop n p))) (sym (add-one slot))

pub no_fault_here : (p : Program) (slot : ℕ) → slot < length p → jump_fault p slot (slice_index_or p slot None) ≡ None
    → jump_faults p slot (drop slot p) ≡ jump_faults p 0 p → jump_faults p (slot + 1) (drop (slot + 1) p) ≡ jump_faults p 0 p
no_fault_here p slot within none so_far =
    ap (λ (f : Option DecodeFault). or_else f (jump_faults p (slot + 1) (drop (slot + 1) p))) (sym none) ∙ sym (jump_faults-drop p slot within) ∙ so_far

pub fault_here : (p : Program) (slot : ℕ) (e : DecodeFault) → slot < length p → jump_fault p slot (slice_index_or p slot None) ≡ Some e
    → jump_faults p slot (drop slot p) ≡ jump_faults p 0 p → jump_faults p 0 p ≡ Some e
fault_here p slot e within some so_far =
    sym so_far ∙ jump_faults-drop p slot within ∙ ap (λ (f : Option DecodeFault). or_else f (jump_faults p (slot + 1) (drop (slot + 1) p))) some

pub no_fault_left : (p : Program) (slot : ℕ) → length p ≤ slot → jump_faults p slot (drop slot p) ≡ jump_faults p 0 p → jump_faults p 0 p ≡ None
unfolding jump_faults
no_fault_left p slot past so_far = sym so_far ∙ ap (jump_faults p slot) (drop_all slot p past)
