use Rattle.std.proofs.Common.{◌∙◌, sym, ap, nat_eq, arith}
use Rattle.log_model.specs.Log.{StoredProcedure, Catalogue, by_number}
use Rattle.plain_replayer.proofs.ProcedureLemmas.{search_on, search_ends, none_added}
use Rattle.plain_replayer.proofs.procedures.added_by_number.Goals as goal

pub returns-then-has_number : goal.returns-then-has_number
returns-then-has_number g c = sym (c.loop-place.invariant ∙ search_ends (λ (p : StoredProcedure). nat_eq p.number c.args.number) c.args.log.now c.args.reports.now c.loop-place.place c.index-reports-place.result c.index-reports-place.result _ c.verdict.result c.has_number.result
    (omega arith) c.index-reports-place.is c.verdict.ensures c.added_at-added.ensures c.has_number.ensures c.if-has_number.true)

pub loop-place-preserved : goal.loop-place-preserved
loop-place-preserved g c = c.loop-place.invariant ∙ search_on (λ (p : StoredProcedure). nat_eq p.number c.args.number) c.args.log.now c.args.reports.now c.loop-place.place c.index-reports-place.result c.index-reports-place.result _ c.verdict.result c.has_number.result
    (omega arith) c.index-reports-place.is c.verdict.ensures c.added_at-added.ensures c.has_number.ensures c.if-has_number.false

pub returns : goal.returns
returns g c = sym (c.loop-place.invariant ∙ ap (λ (ps : Catalogue). by_number ps c.args.number) (none_added c.args.log.now c.loop-place.place c.args.reports.now c.loop-place.place (omega arith)))
