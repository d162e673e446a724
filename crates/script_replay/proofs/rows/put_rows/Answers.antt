use Rattle.std.proofs.Common.{subst, sym, ap, ◌∙◌}
use Rattle.std.proofs.lemmas.Result.{err_from_is_err_and}
use Rattle.log_model.specs.Log.{rows_after}
use Rattle.dsm_world.specs.System.{setting_of, world_of, progress_of}
use Rattle.report.specs.Lines.{line_text}
use Rattle.report.specs.declared.printed.Line.TheVariants as line
use Rattle.report.specs.declared.printed.ReplicaReport.TheVariants as report
use Rattle.script_replay.specs.Acting.{Gives, PassesBeginning}
use Rattle.script_replay.proofs.GivenLemmas.{beginning_more, given_then}
use Rattle.script_replay.proofs.RowLemmas.{keys_there, none_behind, progress_there, text_there}
use Rattle.script_replay.proofs.rows.put_rows.Goals as goal

pub put_each-requires : goal.put_each-requires
put_each-requires g c =
    c.in-Some-at.ensures.gone (progress_of c.in-Some.kept.now) (progress_there c.args.world.now c.args.replica c.position-position.result c.in-Some.kept.now c.in-Some.ensures c.position-position.ensures)
    ∙ none_behind c.args.world.now.window c.in-Some.kept.now.position c.position-position.result (sym c.position-position.ensures)

pub returns-in_err-rows-clause-given : goal.returns-in_err-rows-clause-given
returns-in_err-rows-clause-given g c =
    let known = c.keeps_what_was_delivered.ensures in
    let keys = keys_there c.args.world.now c.args.replica c.position-position.result c.in-Some.kept.now c.in-Some.ensures c.position-position.ensures c.rows_fit_the_schema.ensures known.begins known.world known.catalogue.tables in
    let given = c.in_err-rows.ensures.given (rows_after (setting_of c.args.world.now) (world_of c.args.world.now).log c.position-position.result) c.in-Some-at.ensures.rows keys in
    let q = err_from_is_err_and c.from_residual.result c.from_residual.ensures.1 in
    rw q.1 (subst (PassesBeginning g.W.Write.contents c.args.output.now c.put_each.new.output) (sym (text_there c.args.world.now c.args.replica c.position-position.result c.in-Some.kept.now c.in-Some.ensures c.position-position.ensures))
    (beginning_more g.W.Write.contents c.args.output.now c.put_each.new.output _ _ given))

pub returns-clause-given : goal.returns-clause-given
returns-clause-given g c =
    let known = c.keeps_what_was_delivered.ensures in
    let keys = keys_there c.args.world.now c.args.replica c.position-position.result c.in-Some.kept.now c.in-Some.ensures c.position-position.ensures c.rows_fit_the_schema.ensures known.begins known.world known.catalogue.tables in
    let given = c.in_ok-rows.ensures.given (rows_after (setting_of c.args.world.now) (world_of c.args.world.now).log c.position-position.result) c.in-Some-at.ensures.rows keys in
    let last = ap (λ n. line_text (line.Replica c.args.replica (report.Rows c.position-position.result n))) given.0 in
    subst (Gives g.W.Write.contents c.args.output.now c.put_line-2.new.output c.put_line-2.result) (sym (text_there c.args.world.now c.args.replica c.position-position.result c.in-Some.kept.now c.in-Some.ensures c.position-position.ensures))
    (given_then g.W.Write.contents c.args.output.now c.put_each.new.output c.put_line-2.new.output c.put_line-2.result _ _ given.1
    (subst (Gives g.W.Write.contents c.put_each.new.output c.put_line-2.new.output c.put_line-2.result) last c.put_line-2.ensures.given))
