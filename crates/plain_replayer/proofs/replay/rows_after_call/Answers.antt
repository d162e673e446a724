use Rattle.std.proofs.Common.{◌∙◌, sym}
use Rattle.std.proofs.lemmas.Result.{IfOk-weaker}
use Rattle.plain_runner.specs.Listed.{rows_of}
use Rattle.plain_replayer.proofs.LogLemmas.{rows_committed, rows_refused}
use Rattle.plain_replayer.proofs.replay.rows_after_call.Goals as goal

pub returns-in_ok-run : goal.returns-in_ok-run
returns-in_ok-run g c = IfOk-weaker c.rows_after_run.result _ _
    (λ after is. is ∙ rows_committed c.args.setting.now c.args.log.now c.args.past.now c.args.call.now (rows_of c.args.now.now) c.in_ok-run.run' c.args.verdict (sym c.is_commit.ensures ∙ c.if-is_commit.true) c.in_ok-run.ensures)
    c.rows_after_run.ensures

pub returns-else-is_commit : goal.returns-else-is_commit
returns-else-is_commit g c = IfOk-weaker c.from_rows.result _ _
    (λ after is. is ∙ rows_refused c.args.setting.now c.args.log.now c.args.past.now c.args.call.now (rows_of c.args.now.now) c.args.verdict (sym c.is_commit.ensures ∙ c.if-is_commit.false))
    c.from_rows.ensures
