use Rattle.std.proofs.Common.{◌∙◌, ap}
use Rattle.std.proofs.lemmas.Result.{IfOk-weaker}
use Rattle.log_model.specs.Log.{Item}
use Rattle.plain_runner.specs.Listed.{rows_of}
use Rattle.plain_replayer.specs.Replay.{rows_after_next}
use Rattle.plain_replayer.proofs.LogLemmas.{item_is}
use Rattle.plain_replayer.proofs.replay.rows_after.Goals as goal

pub returns-in-Call : goal.returns-in-Call
returns-in-Call g c = IfOk-weaker c.rows_after_call.result _ _
    (λ after is. is ∙ ap (λ (x : Item). rows_after_next c.args.setting.now c.args.log.now c.args.past.now (rows_of c.args.now.now) x c.args.verdict) (item_is _ _ _ c.in-Call.is c.item.view_is))
    c.rows_after_call.ensures

pub returns-in-Addition : goal.returns-in-Addition
returns-in-Addition g c = IfOk-weaker c.from_rows.result _ _
    (λ after is. is ∙ ap (λ (x : Item). rows_after_next c.args.setting.now c.args.log.now c.args.past.now (rows_of c.args.now.now) x c.args.verdict) (item_is _ _ _ c.in-Addition.is c.item.view_is))
    c.from_rows.ensures
