use Rattle.std.proofs.Common.{◌+◌, ◌<◌, [], arith, refl, ◌∙◌}
use Rattle.std.proofs.lemmas.Result.{err_from_is_err_and}
use Rattle.schema.specs.declared.limits.TheConstants.{MAX_TABLE}
use Rattle.script_replay.proofs.GivenLemmas.{nothing_given}
use Rattle.script_replay.proofs.ListingLemmas.{none_listed}
use Rattle.script_replay.proofs.RowLemmas.{one_table, table_breaks, all_tables}
use Rattle.script_replay.proofs.rows.put_each.Goals as goal

pub loop-table-init : goal.loop-table-init
loop-table-init g c = record {
  few = omega arith;
  same = refl;
  given = λ all answers are. ([], refl, none_listed all are, nothing_given g.W.Write.contents c.args.output.now);
}

pub returns-in_err-count-clause-given : goal.returns-in_err-count-clause-given
returns-in_err-count-clause-given g c = λ all answers are.
    let q = err_from_is_err_and c.from_residual.result c.from_residual.ensures.1 in
    rw q.1 (table_breaks g.W.Write.contents c.args.output.now c.loop-table.output c.put_table.new.output (c.loop-table.table, 0) c.loop-table.count all (c.loop-table.invariant.given all answers are)
    (λ listed before. c.in_err-count.ensures.given all listed answers are before))

pub loop-table-preserved : goal.loop-table-preserved
loop-table-preserved g c = record {
  few = (let few = c.loop-table.invariant.few in let more = c.in_ok-count.ensures.few in omega arith);
  same = c.put_table.ensures.same_output ∙ c.loop-table.invariant.same;
  given = λ all answers are. one_table g.W.Write.contents c.args.output.now c.loop-table.output c.put_table.new.output (c.loop-table.table, 0) (c.loop-table.table + 1, 0) c.loop-table.count c.in_ok-count.field-0 all
      (c.loop-table.invariant.given all answers are) (λ listed before. c.in_ok-count.ensures.given all listed answers are before);
}

pub returns-clause-given : goal.returns-clause-given
returns-clause-given g c = λ all answers are.
    let past : MAX_TABLE < c.loop-table.table = (let test = c.loop-table-test.false in omega arith) in
    all_tables g.W.Write.contents c.args.output.now c.loop-table.output c.loop-table.table c.loop-table.count all are past (c.loop-table.invariant.given all answers are)
