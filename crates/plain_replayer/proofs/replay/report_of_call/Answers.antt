use Rattle.std.proofs.Common.{◌∙◌, ◌≡◌, ℕ, ap, sym, map, get_or}
use Rattle.std.specs.FinMap.{empty}
use Rattle.plain_runner.specs.Listed.{rows_of}
use Rattle.log_model.specs.Log.{by_number, run_of_procedure, verdict_after}
use Rattle.certify.specs.Comparisons.{comparisons_after}
use Rattle.plain_replayer.specs.Replay.{certified_of, procedures_at}
use Rattle.plain_replayer.proofs.LogLemmas.{said_of_run}
use Rattle.plain_replayer.proofs.replay.report_of_call.Goals as goal

pub returns : goal.returns
returns g c =
    let rows : rows_of c.rows_at.result.now ≡ get_or c.args.rows.now c.args.call.now.snapshot empty =
    c.rows_at.ensures ∙ ap (λ (n : ℕ). get_or c.args.rows.now n empty) c.snapshot.ensures.snapshot in
    let none = sym c.begins_empty.ensures.requests in
    c.of_call.ensures
    ∙ said_of_run c.args.setting.now c.args.log.now c.args.past.now c.args.call.now (get_or c.args.rows.now c.args.call.now.snapshot empty) c.in_ok-run.run' c.request.result c.looks_of-looks.result.now c.reply_of.result _ _ _
    c.request.ensures
    (c.in_ok-run.ensures ∙ ap (run_of_procedure c.args.setting.now.tables (by_number (procedures_at c.args.setting.now c.args.log.now c.args.past.now c.args.call.now.snapshot) c.args.call.now.procedure) c.args.call.now.args) rows)
    c.looks_of-looks.ensures
    c.reply_of.ensures
    (c.verdict_after-verdict.ensures ∙ (λ i. verdict_after (c.window-window.ensures i) (none i) (map certified_of c.args.past.now) c.args.call.now c.looks_of-looks.result.now))
    (c.in_ok-comparisons.ensures ∙ (λ i. comparisons_after (c.window-window.ensures i) (none i) (map certified_of c.args.past.now) c.args.call.now c.looks_of-looks.result.now))
    c.told_by-told.ensures
