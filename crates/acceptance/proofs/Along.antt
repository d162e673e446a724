-- Where a step goes on, and what is known there: one lemma a shape.
use Rattle.std.proofs.Common.{◌≡◌, ℕ, ◌+◌, Bool, true, false, cond, Option, refl, subst, inl}
use Rattle.bpf_code.specs.declared.instruction.Instruction.{Instruction}
use Rattle.bpf_code.specs.declared.instruction.Register.{Register}
use Rattle.schema.specs.Schema.{Tables}
use Rattle.bpf_semantics.specs.declared.value.Value.{Value}
use Rattle.bpf_semantics.specs.declared.value.Value.TheVariants as value
use Rattle.bpf_semantics.specs.State.{State, with_register, past, number}
use Rattle.bpf_semantics.specs.Step.{Moment, Going, Stuck, or_stuck, is_read_only, with_result}
use Rattle.bpf_semantics.specs.Path.{fall_through}
use Rattle.bpf_semantics.specs.Fit.{IsState}
use Rattle.bpf_semantics.proofs.StepLemmas.{just}
use Rattle.interval.specs.Range.{Bounds, IsRange, IsWithin}
use Rattle.abs_state.specs.declared.kind.Kind.{Kind}
use Rattle.abs_state.specs.declared.kind.Kind.TheVariants.{Nothing, Number, Stack, Args}
use Rattle.abs_state.specs.declared.state.AbsState.{AbsState}
use Rattle.abs_state.specs.State.{with_kind}
use Rattle.abs_state.specs.Kind.{is_nothing, is_pointer}
use Rattle.abs_step.specs.Result.{next_state}
use Rattle.acceptance.specs.Description.{Describes, IsOf, IsAbsState, IsKind, IsEdgeTo, IsStepAlongEdge}
use Rattle.acceptance.proofs.Put.{put_described}

-- an edge of so many slots, with what is sent along it
pub is_along : (args_len n : ℕ) (slots : Option ℕ) (sent : Option AbsState) (known : AbsState) (s t : State)
    → slots ≡ just n → sent ≡ just known → t.slot ≡ s.slot + n → Describes args_len known t → IsEdgeTo args_len slots sent s t
is_along args_len n slots sent known s t e f at d = rw (e, f) (at, d)

-- ---- a result

free_along : (tables : Tables) (args_len : ℕ) (i : Instruction) (known : AbsState) (s t : State) (held : Bool) → held ≡ false
    → IsEdgeTo args_len (fall_through i) (next_state tables i known) s t → IsStepAlongEdge tables args_len i known s (cond held Stuck (Going t))
free_along tables args_len i known s t true e a = absurd cc
free_along tables args_len i known s t false e a = inl a

-- it goes on with a value of a kind, in a register that isn't r10
pub put_along : (tables : Tables) (args_len n : ℕ) (i : Instruction) (known : AbsState) (s : State) (dst : Register) (k : Kind) (v : Value)
    → fall_through i ≡ just n → next_state tables i known ≡ just (with_kind known dst k) → is_read_only dst ≡ false
    → IsAbsState known → IsState tables s → Describes args_len known s → IsOf k v
    → IsStepAlongEdge tables args_len i known s (with_result n dst v s)
put_along tables args_len n i known s dst k v e f free a st d new =
    free_along tables args_len i known s (past n (with_register s dst v)) (is_read_only dst) free
    (is_along args_len n (fall_through i) (next_state tables i known) (with_kind known dst k) s (past n (with_register s dst v)) e f refl
    (put_described args_len n known s dst k v a.registers st.registers d new))

-- ---- a number that is read

-- where a kind is neither nothing nor a pointer it is a number's, and so is the value
pub with_number : (P : Moment → Type 0) (k : Kind) (v : Value) (next : ℕ → Moment) → is_nothing k ≡ false → is_pointer k ≡ false → IsOf k v
    → ((r : Bounds) (n : ℕ) → k ≡ Number r → v ≡ value.Number n → IsWithin r n → P (next n)) → P (or_stuck (number v) next)
unfolding or_stuck
with_number P Nothing v next something plain h f = absurd cc
with_number P (Stack lo hi) v next something plain h f = absurd cc
with_number P (Args lo hi) v next something plain h f = absurd cc
with_number P (Number r) value.Nothing next something plain h f = absurd h
with_number P (Number r) (value.Number n) next something plain h f = f r n refl refl h
with_number P (Number r) (value.Stack p) next something plain h f = absurd h
with_number P (Number r) (value.Args p) next something plain h f = absurd h

-- the range of a number that may be known
pub range_known : (k : Kind) (r : Bounds) → k ≡ Number r → IsKind k → IsRange r
range_known k r e h = subst IsKind e h
