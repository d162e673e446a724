use Rattle.std.proofs.Common.{◌≡◌, ◌∙◌, ℕ, ◌+◌, sym, ap, subst, arith}
use Rattle.bpf_semantics.specs.Path.{longest_path}
use Rattle.bpf_vm.specs.declared.turn.Turn.TheVariants.{More, Exit}
use Rattle.bpf_vm.specs.Run.{HasEnded, own_effects}
use Rattle.plain_site.proofs.run.take_turns.Goals as goal

pub turn-requires : goal.turn-requires
turn-requires g c = c.open_calls_can_turn.ensures c.args.procedure.now c.args.args.now c.args.map.now c.loop-turn.turn c.loop-turn.machine
    c.requires.suits (sym c.loop-turn.invariant.rows) c.loop-turn.invariant.run

pub returns-in_default : goal.returns-in_default
returns-in_default g c = record {
  ended = λ reply e.
      subst (λ own. HasEnded c.args.procedure.now c.args.args.now c.args.map.now (c.loop-turn.turn + 1) reply (own_effects own)) (sym c.pause.ensures)
      (rw e at (c.turn.ensures.run c.args.args.now c.args.map.now c.loop-turn.turn c.requires.suits (sym c.loop-turn.invariant.rows) c.loop-turn.invariant.run));
  over = λ more. c.in_default.not-More more;
  short = let less = c.turn.ensures.short c.args.args.now c.args.map.now c.loop-turn.turn c.requires.suits c.loop-turn.invariant.run in omega arith;
}

pub loop-turn-preserved : goal.loop-turn-preserved
loop-turn-preserved g c = record {
  rows = ap (λ store. store.rows.now) c.turn.ensures.store ∙ c.loop-turn.invariant.rows;
  run = (rw c.in-More.is at (c.turn.ensures.run c.args.args.now c.args.map.now c.loop-turn.turn c.requires.suits (sym c.loop-turn.invariant.rows) c.loop-turn.invariant.run)).0;
}

pub unreachable-requires : goal.unreachable-requires
unreachable-requires g c =
    let far = c.loop-turn.invariant.run in
    let short = c.runs_go_on_or_end.ensures.short c.args.procedure.now c.args.args.now c.args.map.now c.loop-turn.turn far.here.state far.here.sound c.requires.suits far.here.at in
    let bound = c.bound-turn-end.ensures in
    let end = c.loop-turn-test.false in
    omega (arith, short, bound, end)
