use Rattle.std.proofs.Common.{◌∙◌, ap}
use Rattle.std.proofs.lemmas.Result.{IfOk-weaker}
use Rattle.log_model.specs.Log.{Item}
use Rattle.plain_replayer.specs.Replay.{report_after}
use Rattle.plain_replayer.proofs.LogLemmas.{item_is}
use Rattle.plain_replayer.proofs.replay.report_after.Goals as goal

pub returns-in-Call : goal.returns-in-Call
returns-in-Call g c = IfOk-weaker c.report_of_call.result _ _
    (λ report is. is ∙ ap (λ (x : Item). report_after c.args.setting.now c.args.log.now c.args.past.now c.args.rows.now x) (item_is _ _ _ c.in-Call.is c.item.view_is))
    c.report_of_call.ensures
