use Rattle.std.proofs.Common.{◌∙◌, sym, arith}
use Rattle.log_model.specs.Log.{conflicts}
use Rattle.plain_replayer.proofs.CertifyLemmas.{found_here, found_later, not_found}
use Rattle.plain_replayer.proofs.verdicts.first_conflict.Goals as goal

pub returns-then-conflicts : goal.returns-then-conflicts
returns-then-conflicts g c = sym (c.loop-report.invariant.1
    ∙ found_here (conflicts c.args.looks.now) c.loop-report.position c.args.reports.now c.loop-report.report-index c.report-item.result _ (omega arith) c.report-item.is (sym c.conflicts.ensures ∙ c.if-conflicts.true))

pub loop-report-preserved : goal.loop-report-preserved
loop-report-preserved g c =
    let so_far = c.loop-report.invariant.0 in (
      omega arith,
      c.loop-report.invariant.1
          ∙ found_later (conflicts c.args.looks.now) c.loop-report.position c.args.reports.now c.loop-report.report-index c.report-item.result _ (omega arith) c.report-item.is (sym c.conflicts.ensures ∙ c.if-conflicts.false),
    )

pub returns : goal.returns
returns g c = sym (c.loop-report.invariant.1 ∙ not_found (conflicts c.args.looks.now) c.loop-report.position c.args.reports.now c.loop-report.report-index (omega arith))
