use Rattle.std.proofs.Common.{sym, ap, ◌∙◌, arith}
use Rattle.std.specs.List.{find}
use Rattle.std.proofs.lemmas.List.{drop_all}
use Rattle.dsm_world.proofs.ReplicaLemmas.{get_is}
use Rattle.script_replay.proofs.LogLemmas.{further, found_here, found_behind}
use Rattle.script_replay.proofs.log.further_than.Goals as goal

pub loop-kept-preserved : goal.loop-kept-preserved
loop-kept-preserved g c =
    let there = get_is c.args.replicas.now c.loop-kept.kept-index c.kept-item.result c.loop-kept-test.true c.kept-item.is in
    let position = c.position.ensures in
    sym (found_behind c.args.position c.args.replicas.now c.loop-kept.kept-index c.kept-item.result there (omega (arith, c.if-position.false))) ∙ c.loop-kept.invariant

pub returns-then-position : goal.returns-then-position
returns-then-position g c =
    let there = get_is c.args.replicas.now c.loop-kept.kept-index c.kept-item.result c.loop-kept-test.true c.kept-item.is in
    let position = c.position.ensures in
    sym (found_here c.args.position c.args.replicas.now c.loop-kept.kept-index c.kept-item.result there (omega (arith, c.if-position.true))) ∙ c.loop-kept.invariant

pub returns : goal.returns
returns g c = sym (ap (find (further c.args.position)) (drop_all c.loop-kept.kept-index c.args.replicas.now (omega arith))) ∙ c.loop-kept.invariant
