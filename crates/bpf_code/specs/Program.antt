-- A program as a list of slots, and what makes it one.
use Rattle.std.specs.Prelude.{◌≡◌, ℕ, ℤ, pos, negsuc, ◌+◌, ◌-◌, ◌^◌, ◌<◌, ◌≤◌, FitsSigned, Bool, true, false, List, [], ◌∷◌, length, slice_get, Option, Some, None, IsSome}
use Rattle.std.specs.Int.{w16, w32}
use Rattle.std.specs.Option.{option_and_then}
use Rattle.bpf_code.specs.declared.instruction.Instruction.{Instruction}
use Rattle.bpf_code.specs.declared.instruction.Instruction.TheVariants.{LoadWide, Load, StoreImmediate, StoreRegister, Arithmetic, Jump, LongJump, Branch, Call, Exit}
use Rattle.bpf_code.specs.declared.instruction.Source.TheVariants.{Immediate, Register}

-- the most slots that a program has
abbrev pub max_slots : ℕ
max_slots = 4096

-- each slot is an instruction's first, or the second half of the wide load before it
abbrev pub Program : Type 0
Program = List (Option Instruction)

abbrev pub instruction_at : Program → ℕ → Option Instruction
instruction_at p slot = option_and_then (λ i. i) (slice_get p slot)

abbrev pub is_wide : Instruction → Bool
is_wide (LoadWide _ _) = true
is_wide _ = false

-- behind each wide load, and nowhere else, stands its second half; `true` says that one is due
unfoldable pub AreSlots : Bool → Program → Type 0
AreSlots false [] = Unit {0}
AreSlots true [] = ⊥
AreSlots false (Some i ∷ rest) = AreSlots (is_wide i) rest
AreSlots false (None ∷ rest) = ⊥
AreSlots true (None ∷ rest) = AreSlots false rest
AreSlots true (Some i ∷ rest) = ⊥

-- how far an instruction may jump, in slots from the one behind it (RFC 9669 section 4.3)
abbrev pub distance_of : Instruction → Option ℤ
distance_of (Jump distance) = Some distance
distance_of (LongJump distance) = Some distance
distance_of (Branch _ _ _ _ distance) = Some distance
distance_of _ = None

-- a jump at this slot goes forward, to the start of an instruction
abbrev pub Lands : Program → ℕ → ℤ → Type 0
Lands p slot (pos n) = IsSome (instruction_at p (slot + 1 + n))
Lands p slot (negsuc _) = ⊥

-- its numbers fit their fields
abbrev pub IsInRange : Instruction → Type 0
IsInRange (LoadWide _ value) = value < 2 ^ 64
IsInRange (Load _ _ _ offset) = FitsSigned w16 offset
IsInRange (StoreImmediate _ _ offset immediate) = FitsSigned w16 offset × FitsSigned w32 immediate
IsInRange (StoreRegister _ _ _ offset) = FitsSigned w16 offset
IsInRange (Arithmetic _ _ _ (Immediate immediate)) = FitsSigned w32 immediate
IsInRange (Jump distance) = FitsSigned w16 distance
IsInRange (LongJump distance) = FitsSigned w32 distance
IsInRange (Branch _ _ _ (Immediate immediate) distance) = FitsSigned w32 immediate × FitsSigned w16 distance
IsInRange (Branch _ _ _ (Register _) distance) = FitsSigned w16 distance
IsInRange (Call helper) = FitsSigned w32 helper
IsInRange _ = Unit {0}

-- and so do all of a program
abbrev pub AllInRange : Program → Type 0
AllInRange [] = Unit {0}
AllInRange (None ∷ rest) = AllInRange rest
AllInRange (Some i ∷ rest) = IsInRange i × AllInRange rest

pub record IsProgram (p : Program) : Type 0 where
  pub not_empty : 0 < length p
  pub not_long : length p ≤ max_slots
  pub slots : AreSlots false p
  pub jumps : (slot : ℕ) (i : Instruction) (d : ℤ) → instruction_at p slot ≡ Some i → distance_of i ≡ Some d → Lands p slot d
  pub in_range : AllInRange p
  pub ends : instruction_at p (length p - 1) ≡ Some Exit
