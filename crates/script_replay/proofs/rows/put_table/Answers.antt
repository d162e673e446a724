use Rattle.std.proofs.Common.{◌+◌, ◌-◌, ◌≤◌, ◌^◌, arith, refl, sym, ◌∙◌}
use Rattle.std.proofs.lemmas.Result.{err_from_is_err_and}
use Rattle.report.specs.Lines as lines
use Rattle.script_replay.proofs.RowLemmas.{one_row, row_breaks, last_row, no_row, listed_none}
use Rattle.script_replay.proofs.rows.put_table.Goals as goal

pub loop-key-init : goal.loop-key-init
loop-key-init g c = record {
  few = omega arith;
  word = omega arith;
  same = refl;
  given = λ all listed answers are before. listed_none g.W.Write.contents c.args.output.now (c.args.table, 0) all listed before;
}

pub loop-key-smaller : goal.loop-key-smaller
loop-key-smaller g c =
    let low : c.loop-key.lo ≤ c.in-Some.key = c.in-Some.ensures.covered.0 in
    let next = c.in-Some-checked_add.ensures in
    omega arith

pub returns-in_err-put_line-clause-given : goal.returns-in_err-put_line-clause-given
unfolding lines.line_words
returns-in_err-put_line-clause-given g c = λ all listed answers are before.
    let q = err_from_is_err_and c.from_residual.result c.from_residual.ensures.1 in
    let first = (c.first_is_least.ensures.found _ all (c.args.table, c.in-Some.key) c.in-Some.bytes.now).0 (sym (c.in-Some.ensures.found all answers)) in
    rw q.1 (row_breaks g.W.Write.contents c.args.output.now c.loop-key.output c.put_line.new.output c.args.table c.loop-key.lo (2 ^ 64 - 1) c.in-Some.key c.loop-key.count c.in-Some.bytes.now all listed
    c.looks_cover_from_lo_to_hi.ensures.one c.in-Some.ensures.covered.0 c.in-Some.ensures.covered.1 first (c.loop-key.invariant.given all listed answers are before) c.in_err-put_line.ensures.given)

pub loop-key-preserved : goal.loop-key-preserved
unfolding lines.line_words
loop-key-preserved g c = record {
  few = (let few = c.loop-key.invariant.few in let low : c.loop-key.lo ≤ c.in-Some.key = c.in-Some.ensures.covered.0 in let next = c.in-Some-checked_add.ensures in omega arith);
  word = (let next = c.in-Some-checked_add.ensures in omega arith);
  same = c.put_line.ensures.same_output ∙ c.loop-key.invariant.same;
  given = λ all listed answers are before.
      let first = (c.first_is_least.ensures.found _ all (c.args.table, c.in-Some.key) c.in-Some.bytes.now).0 (sym (c.in-Some.ensures.found all answers)) in
      let more = one_row g.W.Write.contents c.args.output.now c.loop-key.output c.put_line.new.output c.args.table c.loop-key.lo (2 ^ 64 - 1) c.in-Some.key c.loop-key.count c.in-Some.bytes.now all listed
      c.looks_cover_from_lo_to_hi.ensures.one c.in-Some.ensures.covered.0 c.in-Some.ensures.covered.1 first (c.loop-key.invariant.given all listed answers are before) c.in_ok-put_line.ensures.given in
      rw c.in-Some-checked_add.ensures.1 more;
}

pub returns-in-None-clause-few : goal.returns-in-None-clause-few
returns-in-None-clause-few g c =
    let few = c.loop-key.invariant.few in let low : c.loop-key.lo ≤ c.in-Some.key = c.in-Some.ensures.covered.0 in let top = c.in-Some.ensures.covered.1 in omega arith

pub returns-in-None-clause-given : goal.returns-in-None-clause-given
unfolding lines.line_words
returns-in-None-clause-given g c = λ all listed answers are before.
    let first = (c.first_is_least.ensures.found _ all (c.args.table, c.in-Some.key) c.in-Some.bytes.now).0 (sym (c.in-Some.ensures.found all answers)) in
    let last = c.in-None.ensures in
    let end : 2 ^ 64 ≤ c.in-Some.key + 1 = omega arith in
    last_row g.W.Write.contents c.args.output.now c.put_line.new.output c.args.table (c.in-Some.key + 1) (c.loop-key.count + 1) all listed are end
    (one_row g.W.Write.contents c.args.output.now c.loop-key.output c.put_line.new.output c.args.table c.loop-key.lo (2 ^ 64 - 1) c.in-Some.key c.loop-key.count c.in-Some.bytes.now all listed
    c.looks_cover_from_lo_to_hi.ensures.one c.in-Some.ensures.covered.0 c.in-Some.ensures.covered.1 first (c.loop-key.invariant.given all listed answers are before) c.in_ok-put_line.ensures.given)

pub returns-clause-few : goal.returns-clause-few
returns-clause-few g c = let few = c.loop-key.invariant.few in let word = c.loop-key.invariant.word in omega arith

pub returns-clause-given : goal.returns-clause-given
returns-clause-given g c = λ all listed answers are before.
    let none = (c.first_is_least.ensures.none _ all).0 (sym (c.in_default.ensures.found all answers)) in
    no_row g.W.Write.contents c.args.output.now c.loop-key.output c.args.table c.loop-key.lo (2 ^ 64 - 1) c.loop-key.count all listed c.looks_cover_from_lo_to_hi.ensures.one are (omega arith) none
    (c.loop-key.invariant.given all listed answers are before)
