use Rattle.std.proofs.Common.{◌∙◌, ◌+◌, ◌++◌, List, ℕ, sym, ap, map, drop, arith}
use Rattle.std.proofs.lemmas.List.{append-nil, append_assoc}
use Rattle.certify.specs.Comparisons.{comparisons_from}
use Rattle.plain_replayer.specs.Replay.{certified_of}
use Rattle.plain_replayer.proofs.CertifyLemmas.{from_place, compared_last, compared_on, none_compared}
use Rattle.plain_replayer.proofs.verdicts.comparisons_from.Goals as goal

pub returns-then-conflicts : goal.returns-then-conflicts
returns-then-conflicts g c =
    let place = from_place c.args.reports.now c.loop-report.report-index c.report-item.result _ (omega arith) c.report-item.is in
    c.in_ok-add_compared.ensures
    ∙ sym (c.loop-report.invariant.1
    ∙ ap (λ (l : List ℕ). c.loop-report.list.items ++ l)
    (ap (comparisons_from c.args.looks.now c.loop-report.position) place
    ∙ compared_last c.args.looks.now c.loop-report.position (certified_of c.report-item.result) _ (sym c.conflicts.ensures ∙ c.if-conflicts.true)
    ∙ append-nil _))

pub loop-report-preserved : goal.loop-report-preserved
loop-report-preserved g c =
    let place = from_place c.args.reports.now c.loop-report.report-index c.report-item.result _ (omega arith) c.report-item.is in
    let so_far = c.loop-report.invariant.0 in (
      omega arith,
      c.loop-report.invariant.1
          ∙ ap (λ (l : List ℕ). c.loop-report.list.items ++ l)
          (ap (comparisons_from c.args.looks.now c.loop-report.position) place
          ∙ compared_on c.args.looks.now c.loop-report.position (certified_of c.report-item.result) _ (sym c.conflicts.ensures ∙ c.if-conflicts.false))
          ∙ sym (append_assoc c.loop-report.list.items _ _)
          ∙ ap (λ (l : List ℕ). l ++ comparisons_from c.args.looks.now (c.loop-report.position + 1) (map certified_of (drop (c.loop-report.report-index + 1) c.args.reports.now))) (sym c.in_ok-add_compared.ensures),
    )

pub returns : goal.returns
returns g c = sym (c.loop-report.invariant.1
    ∙ ap (λ (l : List ℕ). c.loop-report.list.items ++ l) (none_compared c.args.looks.now c.loop-report.position c.args.reports.now c.loop-report.report-index (omega arith))
    ∙ append-nil c.loop-report.list.items)
