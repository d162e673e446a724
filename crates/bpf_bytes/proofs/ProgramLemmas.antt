-- What decodes without a fault is a program.
use Rattle.std.proofs.Common.{◌≡◌, ℕ, zero, suc, ℤ, pos, negsuc, ◌+◌, ◌-◌, ◌<◌, Bool, true, false, List, [], ◌∷◌, ◌++◌, length, slice_index_or, Option, Some, None, Result, Ok, Err, refl, sym, ap, cond, subst, arith}
use Rattle.std.specs.Prelude.{IsSome, slice_get}
use Rattle.std.specs.Option.{option_and_then}
use Rattle.bpf_bytes.specs.declared.fault.DecodeFault.{DecodeFault}
use Rattle.bpf_bytes.specs.declared.fields.Fields.{Fields}
use Rattle.bpf_code.specs.declared.instruction.Instruction.{Instruction}
use Rattle.bpf_code.specs.declared.instruction.Instruction.TheVariants.{LoadWide, Exit}
use Rattle.bpf_bytes.specs.Reading.{reading_of, half_reading_of}
use Rattle.bpf_code.specs.Program.{Program, IsInRange, AllInRange, is_wide, AreSlots, Lands, instruction_at, distance_of}
use Rattle.bpf_bytes.specs.Decoding.{at_slot, with_front, completed_load, reading_of_slots, or_else, landing_fault, distance_fault, jump_fault, jump_faults, last_fault, exit_fault}

-- ---- the slots

-- a first half that waits is a wide load
abbrev pub IsWaiting : Option Instruction → Type 0
IsWaiting None = Unit {0}
IsWaiting (Some i) = is_wide i ≡ true

completed_load-wide : (i : Instruction) (high : ℕ) → is_wide i ≡ true → is_wide (completed_load i high) ≡ true
completed_load-wide (LoadWide dst low) high e = refl
completed_load-wide i high e = e

abbrev okay : Program → Result Program DecodeFault
okay p = Ok p

with_front_ok : (front : Program) (r : Result Program DecodeFault) (p : Program) → with_front front r ≡ Ok p → (q : Program) × (r ≡ Ok q) × (p ≡ front ++ q)
with_front_ok front (Ok q) p e = (q, refl, cc)
with_front_ok front (Err e) p h = absurd cc

AreSlots-completed_load : (i : Instruction) (high : ℕ) (q : Program) → is_wide i ≡ true → AreSlots false q → AreSlots false (Some (completed_load i high) ∷ None ∷ q)
unfolding AreSlots
AreSlots-completed_load i high q wide slots =
    subst (λ (due : Bool). AreSlots due (None ∷ q)) (sym (completed_load-wide i high wide)) slots

AreSlots-short : (i : Instruction) (q : Program) → is_wide i ≡ false → AreSlots false q → AreSlots false (Some i ∷ q)
unfolding AreSlots
AreSlots-short i q short slots = subst (λ (due : Bool). AreSlots due q) (sym short) slots

AreSlots-nil : AreSlots false []
unfolding AreSlots
AreSlots-nil = tt

program_is : (p q : Program) → okay p ≡ okay q → p ≡ q
program_is p q e = cc

-- slots that were read are laid out as a program's
pub AreSlots-reading_of : (fs : List Fields) (half : Option Instruction) (slot : ℕ) (p : Program) → IsWaiting half → reading_of_slots half slot fs ≡ Ok p → AreSlots false p
unfolding reading_of_slots
AreSlots-reading_of [] None slot p waits e = subst (λ (q : Program). AreSlots false q) (program_is [] p e) AreSlots-nil
AreSlots-reading_of [] (Some first) slot p waits e = absurd cc
AreSlots-reading_of (f ∷ fs) None slot p waits e =
    elim (reading_of f) as (λ r. at_slot slot r (λ i. cond (is_wide i) (reading_of_slots (Some i) (slot + 1) fs) (with_front (Some i ∷ []) (reading_of_slots None (slot + 1) fs))) ≡ Ok p → AreSlots false p) [
      | Ok i ↦ elim (is_wide i) as (λ w. is_wide i ≡ w → cond w (reading_of_slots (Some i) (slot + 1) fs) (with_front (Some i ∷ []) (reading_of_slots None (slot + 1) fs)) ≡ Ok p → AreSlots false p) [
        | true ↦ λ wide h. AreSlots-reading_of fs (Some i) (slot + 1) p wide h
        | false ↦ λ short h.
            let q = with_front_ok (Some i ∷ []) (reading_of_slots None (slot + 1) fs) p h in
            subst (λ (x : Program). AreSlots false x) (sym q.2) (AreSlots-short i q.0 short (AreSlots-reading_of fs None (slot + 1) q.0 tt q.1))
      ] refl
      | Err cause ↦ λ h. absurd cc
    ] e
AreSlots-reading_of (f ∷ fs) (Some first) slot p waits e =
    elim (half_reading_of f) as (λ r. at_slot slot r (λ high. with_front (Some (completed_load first high) ∷ None ∷ []) (reading_of_slots None (slot + 1) fs)) ≡ Ok p → AreSlots false p) [
      | Ok high ↦ λ h.
          let q = with_front_ok (Some (completed_load first high) ∷ None ∷ []) (reading_of_slots None (slot + 1) fs) p h in
          subst (λ (x : Program). AreSlots false x) (sym q.2) (AreSlots-completed_load first high q.0 waits (AreSlots-reading_of fs None (slot + 1) q.0 tt q.1))
      | Err cause ↦ λ h. absurd cc
    ] e

-- ---- the jumps

or_else_none : (a b : Option DecodeFault) → or_else a b ≡ None → (a ≡ None) × (b ≡ None)
or_else_none None b e = (refl, e)
or_else_none (Some f) b e = absurd cc

no_fault_at : (p rest : Program) (k n : ℕ) → n < length rest → jump_faults p k rest ≡ None → jump_fault p (k + n) (slice_index_or rest n None) ≡ None
unfolding jump_faults
no_fault_at p [] k n within e = absurd (omega arith)
no_fault_at p (s ∷ rest) k zero within e =
    let here : k ≡ k + 0 = omega arith in
    subst (λ (slot : ℕ). jump_fault p slot s ≡ None) here (or_else_none (jump_fault p k s) (jump_faults p (k + 1) rest) e).0
no_fault_at p (s ∷ rest) k (suc n) within e =
    let here : (k + 1) + n ≡ k + suc n = omega arith in
    subst (λ (slot : ℕ). jump_fault p slot (slice_index_or rest n None) ≡ None) here
    (no_fault_at p rest (k + 1) n (omega arith) (or_else_none (jump_fault p k s) (jump_faults p (k + 1) rest) e).1)

begins_within : (p : Program) (slot : ℕ) (i : Instruction) → instruction_at p slot ≡ Some i → (slot < length p) × (slice_index_or p slot None ≡ Some i)
begins_within [] slot i e = absurd cc
begins_within (s ∷ p) zero i e = (omega arith, e)
begins_within (s ∷ p) (suc slot) i e = let h = begins_within p slot i e in (omega (arith, h.0), h.1)

landing : (slot : ℕ) (s : Option (Option Instruction)) → landing_fault slot s ≡ None → IsSome (option_and_then (λ i. i) s)
landing slot None e = absurd cc
landing slot (Some None) e = absurd cc
landing slot (Some (Some i)) e = refl

lands : (p : Program) (slot : ℕ) (d : ℤ) → distance_fault p slot (Some d) ≡ None → Lands p slot d
lands p slot (pos n) e = landing slot (slice_get p (slot + 1 + n)) e
lands p slot (negsuc n) e = absurd cc

pub all_land : (p : Program) → jump_faults p 0 p ≡ None → (slot : ℕ) (i : Instruction) (d : ℤ) → instruction_at p slot ≡ Some i → distance_of i ≡ Some d → Lands p slot d
unfolding jump_fault
all_land p e slot i d begins jumps =
    let here = begins_within p slot i begins in
    let none = no_fault_at p p 0 slot here.0 e in
    let same : 0 + slot ≡ slot = omega arith in
    let none : jump_fault p slot (slice_index_or p slot None) ≡ None = subst (λ (k : ℕ). jump_fault p k (slice_index_or p slot None) ≡ None) same none in
    let none : distance_fault p slot (distance_of i) ≡ None = subst (λ (s : Option Instruction). jump_fault p slot s ≡ None) here.1 none in
    lands p slot d (subst (λ (j : Option ℤ). distance_fault p slot j ≡ None) jumps none)

-- ---- the end

ends_at : (slot : ℕ) (s : Option (Option Instruction)) → last_fault slot s ≡ None → s ≡ Some (Some Exit)
ends_at slot (Some (Some Exit)) e = refl
ends_at slot (Some (Some _)) e = absurd cc
ends_at slot (Some None) e = absurd cc
ends_at slot None e = absurd cc

pub ends_with_exit : (p : Program) → exit_fault p ≡ None → instruction_at p (length p - 1) ≡ Some Exit
unfolding exit_fault
ends_with_exit p e = ap (λ (s : Option (Option Instruction)). option_and_then (λ i. i) s) (ends_at (length p - 1) (slice_get p (length p - 1)) e)

-- ---- what is pushed is in range

pub AllInRange-push : (p : Program) (i : Instruction) → AllInRange p → IsInRange i → AllInRange (p ++ Some i ∷ [])
AllInRange-push [] i all fits = (fits, tt)
AllInRange-push (None ∷ p) i all fits = AllInRange-push p i all fits
AllInRange-push (Some j ∷ p) i all fits = (all.0, AllInRange-push p i all.1 fits)

pub AllInRange-second : (p : Program) → AllInRange p → AllInRange (p ++ None ∷ [])
AllInRange-second [] all = tt
AllInRange-second (None ∷ p) all = AllInRange-second p all
AllInRange-second (Some j ∷ p) all = (all.0, AllInRange-second p all.1)
