-- What is known of a state whose stack was written.
use Rattle.std.proofs.Common.{◌≡◌, ℕ, ◌+◌, ◌≤◌, List, length, get_or, Option, refl, sym, subst, ◌∙◌, arith}
use Rattle.bpf_code.specs.Register.{number_of}
use Rattle.bpf_semantics.specs.State.{State, register}
use Rattle.bpf_semantics.specs.Memory.{stack_with}
use Rattle.bpf_semantics.specs.Helpers.{with_stack}
use Rattle.abs_state.specs.declared.kind.Kind.{Kind}
use Rattle.abs_state.specs.declared.kind.Kind.TheVariants.{Nothing}
use Rattle.abs_state.specs.declared.state.AbsState.{AbsState}
use Rattle.abs_state.specs.State.{with_initialised}
use Rattle.acceptance.specs.Description.{Describes, IsOf}
use Rattle.acceptance.proofs.Bytes.{AreKnown}
use Rattle.acceptance.proofs.Written.{still_known, more_known, length_stack, length_initialised}

-- what is known after a write of the stack: of the registers what was known before, and of the bytes as much as is true
pub record IsAfter (known next : AbsState) (stack : List (Option ℕ)) : Type 0 where
  pub kinds : next.kinds ≡ known.kinds
  pub long : length next.initialised ≡ 512
  pub whole : length stack ≡ 512
  pub bytes : AreKnown next.initialised stack

-- bytes are written, and initialised
pub placed : (known : AbsState) (stack : List (Option ℕ)) (k count : ℕ) (bytes : List ℕ) → length bytes ≡ count → k + count ≤ 512 → length known.initialised ≡ 512 → length stack ≡ 512 → AreKnown known.initialised stack
    → IsAfter known (with_initialised known k count) (stack_with stack k bytes)
placed known stack k count bytes counted fits long whole are = record {
  kinds = refl;
  long = length_initialised known.initialised k count (omega arith) ∙ long;
  whole = length_stack stack k bytes (omega arith) ∙ whole;
  bytes = more_known known.initialised stack k count bytes counted (omega arith) (omega arith) are;
}

-- bytes are written, and nothing more is known
pub kept : (known : AbsState) (stack : List (Option ℕ)) (k count : ℕ) (bytes : List ℕ) → length bytes ≡ count → k + count ≤ 512 → length known.initialised ≡ 512 → length stack ≡ 512 → AreKnown known.initialised stack
    → IsAfter known known (stack_with stack k bytes)
kept known stack k count bytes counted fits long whole are = record {
  kinds = refl;
  long = long;
  whole = length_stack stack k bytes (omega arith) ∙ whole;
  bytes = still_known known.initialised stack k bytes (omega arith) are;
}

-- one write after another
pub then_after : (known next last : AbsState) (stack new : List (Option ℕ)) → IsAfter known next stack → IsAfter next last new → IsAfter known last new
then_after known next last stack new a b = record { kinds = b.kinds ∙ a.kinds; long = b.long; whole = b.whole; bytes = b.bytes }

pub after_described : (args_len : ℕ) (known next : AbsState) (s : State) (stack : List (Option ℕ)) → IsAfter known next stack → Describes args_len known s → Describes args_len next (with_stack stack s)
after_described args_len known next s stack a d = record {
  registers = λ r. subst (λ (kinds : List Kind). IsOf (get_or kinds (number_of r) Nothing) (register s r)) (sym a.kinds) (d.registers r);
  stack = a.bytes;
  args = d.args;
}
