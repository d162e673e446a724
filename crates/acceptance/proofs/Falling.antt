-- Steps that go on to the next instruction.
use Rattle.std.proofs.Common.{◌≡◌, ℕ, ◌+◌, Option, Some, None, sym, ap, subst, inl}
use Rattle.bpf_code.specs.declared.instruction.Instruction.{Instruction}
use Rattle.schema.specs.Schema.{Tables}
use Rattle.bpf_semantics.specs.State.{State, past}
use Rattle.bpf_semantics.specs.Memory.{and_then}
use Rattle.bpf_semantics.specs.Step.{Moment, Going, or_stuck}
use Rattle.bpf_semantics.specs.Path.{fall_through}
use Rattle.bpf_semantics.proofs.StepLemmas.{just}
use Rattle.abs_state.specs.declared.state.AbsState.{AbsState}
use Rattle.abs_step.specs.Result.{next_state}
use Rattle.acceptance.specs.Description.{Describes, IsEdgeTo, IsStepAlongEdge}

-- ---- what is there is taken

pub taken : {X Y : Type 0} (o : Option X) (f : X → Option Y) (x : X) → o ≡ just x → and_then o f ≡ f x
unfolding and_then
taken None f x e = absurd cc
taken (Some y) f x e = let same : y ≡ x = cc in ap f same

pub goes : {X : Type 0} (o : Option X) (next : X → Moment) (x : X) → o ≡ just x → or_stuck o next ≡ next x
unfolding or_stuck
goes None next x e = absurd cc
goes (Some y) next x e = let same : y ≡ x = cc in ap next same

-- ---- along the edge to the next instruction

pub falls_along : (tables : Tables) (args_len slots : ℕ) (i : Instruction) (known next : AbsState) (s t : State) → fall_through i ≡ just slots → next_state tables i known ≡ just next → t.slot ≡ s.slot
    → Describes args_len next (past slots t) → IsStepAlongEdge tables args_len i known s (Going (past slots t))
falls_along tables args_len slots i known next s t through sent same d =
    let at : IsEdgeTo args_len (just slots) (just next) s (past slots t) = (ap (λ (n : ℕ). n + slots) same, d) in
    inl (subst (λ (o : Option ℕ). IsEdgeTo args_len o (next_state tables i known) s (past slots t)) (sym through)
    (subst (λ (o : Option AbsState). IsEdgeTo args_len (just slots) o s (past slots t)) (sym sent) at))
