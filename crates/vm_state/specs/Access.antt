-- Memory by the address alone: the stack ends at 2 ^ 40, and the arguments begin at 2 ^ 41.
use Rattle.std.specs.Prelude.{ℕ, ◌+◌, ◌-◌, ◌%◌, ◌^◌, ◌<◌, ◌≤◌, ℤ, nat_lt, if◌then◌else◌, List, ◌++◌, length, take, drop, slice_set}
use Rattle.std.specs.Int.{w64, cast_unsigned}
use Rattle.bpf_code.specs.declared.instruction.Register.{Register}
use Rattle.bpf_code.specs.declared.instruction.Instruction.{Instruction}
use Rattle.bpf_code.specs.declared.instruction.Source.{Source}
use Rattle.bpf_code.specs.declared.instruction.Source.TheVariants as source
use Rattle.bpf_code.specs.Register.{number_of}
use Rattle.bpf_code.specs.Program.{Program}
use Rattle.schema.specs.Schema.{Tables}
use Rattle.bpf_semantics.specs.State.{State}
use Rattle.bpf_semantics.specs.Step.{execute}
use Rattle.vm_state.specs.Words.{Words, Holds, HoldsNext, word, stack_end, args_start}
use Rattle.vm_state.specs.Plain.{IsPlain, IsNeverStuck, CanRunOn, Reaches}

-- so many bytes from an address on lie in the stack
pub record InStack (address count : ℕ) : Type 0 where
  pub low : stack_end ≤ address + 512
  pub high : address + count ≤ stack_end

-- the stack's bytes from an address on
abbrev pub stack_from : Words → ℕ → List ℕ
stack_from m address = drop (address + 512 - stack_end) m.stack

-- so many slots on
abbrev pub words_past : ℕ → Words → Words
words_past slots m = record m { slot = m.slot + slots }

-- with this word in a register
abbrev pub with_word : Words → Register → ℕ → Words
with_word m r w = record m { registers = slice_set m.registers (number_of r) w }

-- with these bytes in the stack
abbrev pub with_bytes : Words → ℕ → List ℕ → Words
with_bytes m address bytes =
    let k = address + 512 - stack_end in record m { stack = take k m.stack ++ bytes ++ drop (k + length bytes) m.stack }

-- No clause that a caller sees speaks of what follows.

-- so many bytes from an address on lie in arguments of so many
pub record InArgs (all address count : ℕ) : Type 0 where
  pub low : args_start ≤ address
  pub high : address + count ≤ args_start + all

-- what an address below the stack's end reads is the stack, and else the arguments
pub record CanLoad (m : Words) (address count : ℕ) : Type 0 where
  pub stack : address < stack_end → InStack address count
  pub args : stack_end ≤ address → InArgs (length m.args) address count

abbrev pub bytes_from : Words → ℕ → List ℕ
bytes_from m address = if nat_lt address stack_end then stack_from m address else drop (address - args_start) m.args

-- a word with an offset
abbrev pub offset_address : ℕ → ℤ → ℕ
offset_address w offset = (w + cast_unsigned w64 offset) % 2 ^ 64

-- at this slot
abbrev pub at_slot : ℕ → Words → Words
at_slot at m = record m { slot = at }

-- what an instruction makes of each state that the words at one slot stand for, others at another stand for
abbrev pub HoldsAfter : Instruction → ℕ → Words → ℕ → Words → Type 0
HoldsAfter i at m to n = (tables : Tables) (s : State) → Holds s (at_slot at m) → HoldsNext (execute tables i s) (at_slot to n)

-- a plain instruction leads so from one slot to a later one
pub record GoesOn (i : Instruction) (at : ℕ) (m : Words) (to : ℕ) (n : Words) : Type 0 where
  pub plain : IsPlain i
  pub further : at < to
  pub held : HoldsAfter i at m to n

-- so does the instruction of a program at a slot, and where so many steps lead to the one, one more leads to the other
pub record RunsOn (p : Program) (at : ℕ) (m : Words) (to : ℕ) (n : Words) : Type 0 where
  pub further : at < to
  pub can : CanRunOn p (at_slot to n)
  pub reaches : (tables : Tables) (s : State) (k : ℕ) → IsNeverStuck p tables s → Reaches p tables s k (at_slot at m) → Reaches p tables s (k + 1) (at_slot to n)

abbrev pub operand_word : Words → Source → ℕ
operand_word m (source.Immediate immediate) = cast_unsigned w64 immediate
operand_word m (source.Register r) = word m r
