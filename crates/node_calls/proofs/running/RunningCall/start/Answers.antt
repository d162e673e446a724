use Rattle.std.proofs.Common.{List, length, ap, ◌∙◌}
use Rattle.log_entry.specs.declared.entry.Entry.{Entry as LogEntry}
use Rattle.log_model.specs.OpenCall.{OpenCall}
use Rattle.node_calls.proofs.RunLemmas.{begun_under_way}
use Rattle.node_calls.proofs.running.RunningCall.start.Goals as goal

pub invariant_of-result : goal.invariant_of-result
invariant_of-result g c = λ stays.
    let call = c.in_ok-call in
    begun_under_way c.rows_fit_the_schema.ensures g.J.LogSetting.setting c.args.begun call.call c.procedure.result c.len.result c.accepted.result.now
    c.is_of_the_log.ensures c.procedure.ensures (c.len.ensures.len ∙ ap (λ (xs : List (LogEntry g.row.A.Denot)). length xs) c.seen.ensures) c.accepted.ensures
    (ap (λ (o : OpenCall). o.call.procedure) call.ensures.begun) (ap (λ (o : OpenCall). o.call.snapshot) call.ensures.begun) (λ w log p. call.ensures.follows w log p)
