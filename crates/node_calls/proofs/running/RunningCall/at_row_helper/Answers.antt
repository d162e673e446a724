use Rattle.std.proofs.Common.{sym, ap, ◌∙◌}
use Rattle.bpf_code.specs.Program.{instruction_at}
use Rattle.bpf_verify.specs.Flow.{Procedure}
use Rattle.log_model.specs.OpenCall.{calls_row_helper}
use Rattle.world_calls.specs.OpenCall.{stays_open}
use Rattle.node_calls.specs.Running.{RunningState, calls_row_helper_next}
use Rattle.node_calls.proofs.RunLemmas.{helper_next}
use Rattle.node_calls.proofs.running.RunningCall.at_row_helper.Goals as goal

pub returns : goal.returns
returns g c =
    let w = g.J.LogSetting.setting in
    let me = c.self.inside in
    let ready = ap (λ (r : RunningState g.row.A.Denot). r.last) c.self.view_is ∙ c.requires in
    c.calls_row_helper.ensures ∙ ap calls_row_helper c.next.ensures
    ∙ ap (λ (q : Procedure). calls_row_helper (instruction_at q.program me.call.machine.words.slot)) c.accepted.ensures
    ∙ sym (helper_next w me.begun me.call c.is_of_the_log.ensures (c.self.invariant (ap stays_open ready)) ready)
    ∙ ap (λ (r : RunningState g.row.A.Denot). calls_row_helper_next w r) c.self.view_is
