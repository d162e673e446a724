-- What bytes decode to: a program, or their one fault.
use Rattle.std.specs.Prelude.{ℕ, ℤ, pos, negsuc, ◌+◌, ◌-◌, ◌*◌, ◌^◌, ◌/◌, ◌%◌, ◌||◌, ◌==◌, not, nat_lt, if◌then◌else◌, List, [], ◌∷◌, ◌++◌, length, slice_get, Option, Some, None, Result, Ok, Err}
use Rattle.std.specs.Option.{option_and_then}
use Rattle.bpf_bytes.specs.declared.fault.DecodeCause.{DecodeCause}
use Rattle.bpf_bytes.specs.declared.fault.DecodeCause.TheVariants.{Length, TooManySlots, CutShort, JumpBackwards, JumpPastEnd, JumpIntoWideLoad, NoExit}
use Rattle.bpf_bytes.specs.declared.fault.DecodeFault.{DecodeFault}
use Rattle.bpf_bytes.specs.declared.fields.Fields.{Fields}
use Rattle.bpf_code.specs.declared.instruction.Instruction.{Instruction}
use Rattle.bpf_code.specs.declared.instruction.Instruction.TheVariants.{LoadWide, Exit}
use Rattle.bpf_bytes.specs.Fields.{slots_of}
use Rattle.bpf_bytes.specs.Reading.{reading_of, half_reading_of}
use Rattle.bpf_code.specs.Program.{Program, max_slots, is_wide, distance_of}

abbrev pub fault : DecodeCause → ℕ → DecodeFault
fault cause slot = record { cause = cause; slot = slot }

-- a step's value goes to the next step; its cause is a fault at this slot
abbrev pub at_slot : {A B : Type 0} → ℕ → Result A DecodeCause → (A → Result B DecodeFault) → Result B DecodeFault
at_slot slot (Ok x) next = next x
at_slot slot (Err cause) next = Err (fault cause slot)

abbrev pub with_front : Program → Result Program DecodeFault → Result Program DecodeFault
with_front front (Ok p) = Ok (front ++ p)
with_front front (Err e) = Err e

-- the wide load of a first half and the upper half of its value
abbrev pub completed_load : Instruction → ℕ → Instruction
completed_load (LoadWide dst low) high = LoadWide dst (low + 2 ^ 32 * high)
completed_load i _ = i

-- the slots in rising order; a first half waits for the second
unfoldable pub reading_of_slots : Option Instruction → ℕ → List Fields → Result Program DecodeFault
reading_of_slots None slot [] = Ok []
reading_of_slots (Some first) slot [] = Err (fault CutShort (slot - 1))
reading_of_slots None slot (f ∷ rest) = at_slot slot (reading_of f) (λ i.
    if is_wide i then reading_of_slots (Some i) (slot + 1) rest
    else with_front (Some i ∷ []) (reading_of_slots None (slot + 1) rest))
reading_of_slots (Some first) slot (f ∷ rest) = at_slot slot (half_reading_of f) (λ high.
    with_front (Some (completed_load first high) ∷ None ∷ []) (reading_of_slots None (slot + 1) rest))

-- the first of two faults, where there is one
abbrev pub or_else : Option DecodeFault → Option DecodeFault → Option DecodeFault
or_else None next = next
or_else (Some f) _ = Some f

-- where a jump from this slot lands: past the end, in a second half, or well
abbrev pub landing_fault : ℕ → Option (Option Instruction) → Option DecodeFault
landing_fault slot None = Some (fault JumpPastEnd slot)
landing_fault slot (Some None) = Some (fault JumpIntoWideLoad slot)
landing_fault slot (Some (Some _)) = None

abbrev pub distance_fault : Program → ℕ → Option ℤ → Option DecodeFault
distance_fault p slot None = None
distance_fault p slot (Some (negsuc _)) = Some (fault JumpBackwards slot)
distance_fault p slot (Some (pos n)) = landing_fault slot (slice_get p (slot + 1 + n))

unfoldable pub jump_fault : Program → ℕ → Option Instruction → Option DecodeFault
jump_fault p slot i = distance_fault p slot (option_and_then distance_of i)

-- the first fault of the jumps in the slots from this one on
unfoldable pub jump_faults : Program → ℕ → Program → Option DecodeFault
jump_faults p slot [] = None
jump_faults p slot (i ∷ rest) = or_else (jump_fault p slot i) (jump_faults p (slot + 1) rest)

-- the last slot has EXIT; else the fault is where the last instruction begins
abbrev pub last_fault : ℕ → Option (Option Instruction) → Option DecodeFault
last_fault slot (Some (Some Exit)) = None
last_fault slot (Some (Some _)) = Some (fault NoExit slot)
last_fault slot _ = Some (fault NoExit (slot - 1))

unfoldable pub exit_fault : Program → Option DecodeFault
exit_fault p = last_fault (length p - 1) (slice_get p (length p - 1))

abbrev pub program_unless : Option DecodeFault → Program → Result Program DecodeFault
program_unless None p = Ok p
program_unless (Some f) _ = Err f

abbrev pub checked_program : Result Program DecodeFault → Result Program DecodeFault
checked_program (Err f) = Err f
checked_program (Ok p) = program_unless (or_else (jump_faults p 0 p) (exit_fault p)) p

-- first the length, then the slots, then the jumps, then the end
unfoldable pub program_of : List ℕ → Result Program DecodeFault
program_of bytes =
    if length bytes == 0 || not (length bytes % 8 == 0) then Err (fault Length 0)
    else if nat_lt max_slots (length bytes / 8) then Err (fault TooManySlots 0)
    else checked_program (reading_of_slots None 0 (slots_of bytes))
