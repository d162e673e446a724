use Rattle.std.proofs.Common.{◌≡◌, ◌∙◌, sym, subst, inl, inr}
use Rattle.bpf_code.specs.declared.instruction.Instruction.{Instruction}
use Rattle.bpf_code.specs.declared.instruction.Instruction.TheVariants.{Call}
use Rattle.bpf_semantics.proofs.RunLemmas.{step_runs, going_runs}
use Rattle.bpf_semantics.specs.Step.{Going, execute}
use Rattle.bpf_semantics.proofs.StepLemmas.{just, some_is, execute_leads}
use Rattle.bpf_semantics.proofs.LookLemmas.{execute_looks, execute_quiet, execute_call}
use Rattle.bpf_semantics.proofs.steps.a_step_leads_on.Goals as goal

pub returns-clause-leads : goal.returns-clause-leads
returns-clause-leads c p tables s t e = let runs = step_runs p tables s (Going t) e (going_runs t) in (runs.0, runs.1, (execute_leads tables runs.0 s t runs.2).leads)

pub returns-clause-counts : goal.returns-clause-counts
returns-clause-counts c p tables s t e = let runs = step_runs p tables s (Going t) e (going_runs t) in (execute_leads tables runs.0 s t runs.2).counts

pub returns-clause-looks : goal.returns-clause-looks
returns-clause-looks c p tables s t e =
    let runs = step_runs p tables s (Going t) e (going_runs t) in
    elim (execute_looks tables runs.0 s t runs.2) [
      | inl same ↦ inl same
      | inr more ↦ inr (more.0, more.2)
    ]

pub returns-clause-call : goal.returns-clause-call
returns-clause-call c p tables s t n at e =
    let runs = step_runs p tables s (Going t) e (going_runs t) in
    let is = some_is runs.0 (Call n) (sym runs.1 ∙ at) in
    execute_call tables n s t (subst (λ (j : Instruction). execute tables j s ≡ Going t) is runs.2)

pub returns-clause-others : goal.returns-clause-others
returns-clause-others c p tables s t i at no_call e =
    let runs = step_runs p tables s (Going t) e (going_runs t) in
    let is = some_is runs.0 i (sym runs.1 ∙ at) in
    execute_quiet tables i s t no_call (subst (λ (j : Instruction). execute tables j s ≡ Going t) is runs.2)
