-- What holding a state tells of its words. No clause that a caller sees speaks of it.
use Rattle.std.specs.Prelude.{◌≡◌, ◌≢◌, ℕ, Some, None}
use Rattle.bpf_code.specs.declared.instruction.Register.{Register}
use Rattle.bpf_semantics.specs.declared.value.Value.{Value}
use Rattle.bpf_semantics.specs.State.{State, register, number}
use Rattle.bpf_semantics.specs.Helpers.{buffer_of}
use Rattle.vm_state.specs.Words.{Words, Holds, IsWordOf, word}
use Rattle.vm_state.specs.Access.{InStack}

pub record HeldLaws : Type 0 where
  pub register : (s : State) (m : Words) (r : Register) → Holds s m → IsWordOf (register s r) (word m r)
  pub number : (v : Value) (w n : ℕ) → IsWordOf v w → number v ≡ Some n → w ≡ n
  pub buffer : (v : Value) (w count : ℕ) → IsWordOf v w → buffer_of v count ≢ None → InStack w count
  pub same : (s t : State) (m : Words) → t.slot ≡ s.slot → t.registers ≡ s.registers → t.stack ≡ s.stack → t.args ≡ s.args
      → Holds s m → Holds t m
