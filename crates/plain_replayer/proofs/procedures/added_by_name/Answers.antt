use Rattle.std.proofs.Common.{◌∙◌, sym, ap, arith}
use Rattle.std.specs.Str.{bytes_eq}
use Rattle.log_model.specs.Log.{StoredProcedure, Catalogue, by_name}
use Rattle.plain_replayer.proofs.ProcedureLemmas.{search_on, search_ends, none_added}
use Rattle.plain_replayer.proofs.procedures.added_by_name.Goals as goal

pub returns-then-has_name : goal.returns-then-has_name
returns-then-has_name g c = sym (c.loop-place.invariant ∙ search_ends (λ (p : StoredProcedure). bytes_eq p.name c.args.name.now) c.args.log.now c.args.reports.now c.loop-place.place c.index-reports-place.result c.index-reports-place.result _ c.verdict.result c.has_name.result
    (omega arith) c.index-reports-place.is c.verdict.ensures c.added_at-added.ensures c.has_name.ensures c.if-has_name.true)

pub loop-place-preserved : goal.loop-place-preserved
loop-place-preserved g c = c.loop-place.invariant ∙ search_on (λ (p : StoredProcedure). bytes_eq p.name c.args.name.now) c.args.log.now c.args.reports.now c.loop-place.place c.index-reports-place.result c.index-reports-place.result _ c.verdict.result c.has_name.result
    (omega arith) c.index-reports-place.is c.verdict.ensures c.added_at-added.ensures c.has_name.ensures c.if-has_name.false

pub returns : goal.returns
returns g c = sym (c.loop-place.invariant ∙ ap (λ (ps : Catalogue). by_name ps c.args.name.now) (none_added c.args.log.now c.loop-place.place c.args.reports.now c.loop-place.place (omega arith)))
