-- The longest path through a program: how many instructions it may run at the most, whatever the conditions say.
use Rattle.std.specs.Prelude.{ℕ, zero, suc, ◌+◌, ℤ, pos, max, Option, Some, None, [], ◌∷◌, length}
use Rattle.bpf_code.specs.declared.instruction.Instruction.{Instruction}
use Rattle.bpf_code.specs.declared.instruction.Instruction.TheVariants.{LoadWide, Jump, LongJump, Exit}
use Rattle.bpf_code.specs.Program.{Program, instruction_at, distance_of}

-- how many slots on the next instruction is where this one doesn't jump
abbrev pub fall_through : Instruction → Option ℕ
fall_through (LoadWide _ _) = Some 2
fall_through (Jump _) = None
fall_through (LongJump _) = None
fall_through Exit = None
fall_through _ = Some 1

-- how many slots further where it jumps
abbrev pub slots_of_jump : Option ℤ → Option ℕ
slots_of_jump (Some (pos distance)) = Some (1 + distance)
slots_of_jump _ = None

abbrev pub jump_of : Instruction → Option ℕ
jump_of i = slots_of_jump (distance_of i)

abbrev pub from_there : (ℕ → ℕ) → ℕ → Option ℕ → ℕ
from_there length_from slot None = 0
from_there length_from slot (Some slots) = length_from (slot + slots)

abbrev pub one_more : (ℕ → ℕ) → ℕ → Option Instruction → ℕ
one_more length_from slot None = 0
one_more length_from slot (Some i) = 1 + max (from_there length_from slot (fall_through i)) (from_there length_from slot (jump_of i))

-- the instructions on the longest path from a slot, counting at most `most` of them
unfoldable pub path : Program → ℕ → ℕ → ℕ
path p zero slot = 0
path p (suc most) slot = one_more (path p most) slot (instruction_at p slot)

-- each instruction leads at least one slot on, so no path has more of them than there are slots
abbrev pub longest_path : Program → ℕ
longest_path p = path p (length p) 0

-- how many instructions a program has
abbrev pub instructions : Program → ℕ
instructions [] = 0
instructions (None ∷ rest) = instructions rest
instructions (Some _ ∷ rest) = 1 + instructions rest
