use Rattle.std.proofs.Common.{subst, sym, ◌∙◌, refl, arith}
use Rattle.std.proofs.lemmas.Result.{err_from_is_err_and}
use Rattle.byte_output.specs.Pending.{Passes}
use Rattle.dsm_world.specs.System.{setting_of, world_of}
use Rattle.replica.proofs.EntryLemmas.{items_count}
use Rattle.dsm_world.proofs.Numbered.{get_within}
use Rattle.script_replay.specs.Acting.{PassesBeginning, Gives}
use Rattle.script_replay.proofs.PrintedLemmas.{no_lines, one_more_line, line_breaks, log_given}
use Rattle.script_replay.proofs.log.put_log.Goals as goal

pub loop-before-init : goal.loop-before-init
loop-before-init g c = (no_lines g.W.Write.contents (setting_of c.args.world.now) (world_of c.args.world.now) c.args.output.now, refl)

pub loop-before-preserved : goal.loop-before-preserved
loop-before-preserved g c =
    let w = setting_of c.args.world.now in
    let world = world_of c.args.world.now in
    let before = c.loop-before.before in
    let count = items_count c.args.world.now.entries in
    let len = c.log_len-entries.ensures in
    let there = get_within world.log before (omega arith) in (
      one_more_line g.W.Write.contents w world before there.0 c.args.output.now c.loop-before.output c.put_line.new.output c.loop-before.invariant.0 there.1
          (subst (Passes g.W.Write.contents c.loop-before.output c.put_line.new.output) (c.logged-line.ensures there.0 there.1) c.in_ok-put_line.ensures.given),
      c.put_line.ensures.same_output ∙ c.loop-before.invariant.1,
    )

pub returns-in_err-put_line-clause-same_output : goal.returns-in_err-put_line-clause-same_output
returns-in_err-put_line-clause-same_output g c = c.put_line.ensures.same_output ∙ c.loop-before.invariant.1

pub returns-in_err-put_line-clause-given : goal.returns-in_err-put_line-clause-given
returns-in_err-put_line-clause-given g c =
    let w = setting_of c.args.world.now in
    let world = world_of c.args.world.now in
    let before = c.loop-before.before in
    let count = items_count c.args.world.now.entries in
    let len = c.log_len-entries.ensures in
    let there = get_within world.log before (omega arith) in
    let q = err_from_is_err_and c.from_residual.result c.from_residual.ensures.1 in
    rw q.1 (line_breaks g.W.Write.contents w world before there.0 c.args.output.now c.loop-before.output c.put_line.new.output c.loop-before.invariant.0 there.1
    (subst (PassesBeginning g.W.Write.contents c.loop-before.output c.put_line.new.output) (c.logged-line.ensures there.0 there.1) c.in_err-put_line.ensures.given))

pub returns-clause-same_output : goal.returns-clause-same_output
returns-clause-same_output g c = c.put_line-2.ensures.same_output ∙ c.loop-before.invariant.1

pub returns-clause-given : goal.returns-clause-given
returns-clause-given g c =
    let w = setting_of c.args.world.now in
    let world = world_of c.args.world.now in
    let count = items_count c.args.world.now.entries in
    let len = c.log_len-entries.ensures in
    log_given g.W.Write.contents w world c.loop-before.before c.args.output.now c.loop-before.output c.put_line-2.new.output c.put_line-2.result c.loop-before.invariant.0 (omega arith)
    (subst (λ n. Gives g.W.Write.contents c.loop-before.output c.put_line-2.new.output c.put_line-2.result (Rattle.report.specs.Lines.line_text (Rattle.report.specs.declared.printed.Line.TheVariants.Log n))) (len ∙ sym count) c.put_line-2.ensures.given)
