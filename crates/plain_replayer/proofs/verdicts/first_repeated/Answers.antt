use Rattle.std.proofs.Common.{◌∙◌, sym, arith}
use Rattle.log_model.specs.Log.{repeats}
use Rattle.plain_replayer.proofs.CertifyLemmas.{found_here, found_later, not_found}
use Rattle.plain_replayer.proofs.verdicts.first_repeated.Goals as goal

pub returns-then-repeats : goal.returns-then-repeats
returns-then-repeats g c = sym (c.loop-report.invariant.1
    ∙ found_here (repeats c.args.request) c.loop-report.position c.args.past.now c.loop-report.report-index c.report-item.result _ (omega arith) c.report-item.is (sym c.repeats.ensures ∙ c.if-repeats.true))

pub loop-report-preserved : goal.loop-report-preserved
loop-report-preserved g c =
    let so_far = c.loop-report.invariant.0 in (
      omega arith,
      c.loop-report.invariant.1
          ∙ found_later (repeats c.args.request) c.loop-report.position c.args.past.now c.loop-report.report-index c.report-item.result _ (omega arith) c.report-item.is (sym c.repeats.ensures ∙ c.if-repeats.false),
    )

pub returns : goal.returns
returns g c = sym (c.loop-report.invariant.1 ∙ not_found (repeats c.args.request) c.loop-report.position c.args.past.now c.loop-report.report-index (omega arith))
