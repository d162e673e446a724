use Rattle.std.proofs.Common.{◌∙◌, ◌+◌, arith, refl}
use Rattle.bpf_vm.specs.Run.{own_effects}
use Rattle.bpf_vm.proofs.Advancing.{further_first, both_further, plain_further, turn_further}
use Rattle.bpf_vm.proofs.machine.Machine.run_on.Goals as goal

pub loop-init : goal.loop-init
loop-init g c = record {
  store = refl;
  count = omega arith;
  further = further_first c.args.procedure.now (g.S.Store.answers_from c.args.view.now.store) (g.S.Store.is_gone c.args.view.now.store) c.args.self.now (own_effects c.args.view.now.own);
}

pub run_plain-before-requires : goal.run_plain-before-requires
run_plain-before-requires g c =
    let p = c.args.procedure.now in
    let (args, rows, k, suits, answers, h) = c.requires.on c.requires.more in
    let there = c.loop.invariant.further args rows k suits answers h in
    c.runs_go_on_or_end.ensures.plain p args rows (k + c.loop.before) c.loop.self _ suits there.0

pub overflow_add-before : goal.overflow_add-before
overflow_add-before g c =
    let p = c.args.procedure.now in
    let (args, rows, k, suits, answers, h) = c.requires.on c.requires.more in
    let there = c.loop.invariant.further args rows k suits answers h in
    let plain = c.run_plain-before.ensures.run args rows (k + c.loop.before) (own_effects c.loop.view.own) suits there.0 in
    let s = plain.0.here in
    let short = c.runs_go_on_or_end.ensures.short p args rows _ s.state s.sound suits s.at in
    let bound = c.bound-end.ensures in
    omega (arith, short, bound)

pub turn-requires : goal.turn-requires
turn-requires g c =
    let p = c.args.procedure.now in
    let (args, rows, k, suits, answers, h) = c.requires.on c.requires.more in
    let there = c.loop.invariant.further args rows k suits answers h in
    let plain = c.run_plain-before.ensures.run args rows (k + c.loop.before) (own_effects c.loop.view.own) suits there.0 in
    c.open_calls_can_turn.ensures p args rows _ c.run_plain-before.new.self suits (rw c.loop.invariant.store answers) plain.0

pub overflow_add-before-in-More : goal.overflow_add-before-in-More
overflow_add-before-in-More g c =
    let p = c.args.procedure.now in
    let (args, rows, k, suits, answers, h) = c.requires.on c.requires.more in
    let there = c.loop.invariant.further args rows k suits answers h in
    let plain = c.run_plain-before.ensures.run args rows (k + c.loop.before) (own_effects c.loop.view.own) suits there.0 in
    let s = plain.0.here in
    let short = c.runs_go_on_or_end.ensures.short p args rows _ s.state s.sound suits s.at in
    let bound = c.bound-end.ensures in
    omega (arith, short, bound)

pub loop-preserved : goal.loop-preserved
loop-preserved g c =
    let p = c.args.procedure.now in
    let old = own_effects c.loop.view.own in
    let new = own_effects c.turn.new.view.own in
    let answers_from = g.S.Store.answers_from c.args.view.now.store in
    let gone = g.S.Store.is_gone c.args.view.now.store in
    let count = c.loop.invariant.count in
    let plain = plain_further p answers_from gone c.run_plain-before.result c.loop.self c.run_plain-before.new.self old (λ args rows k. c.run_plain-before.ensures.run args rows k old) in
    let turned = turn_further p answers_from gone c.run_plain-before.new.self c.turn.new.self old new
    (λ args rows k suits answers h. (rw c.in-More.is at (rw c.loop.invariant.store at c.turn.ensures.run)) args rows k suits answers h) in
    let here = both_further p answers_from gone c.loop.before c.run_plain-before.result c.args.self.now c.loop.self c.run_plain-before.new.self (own_effects c.args.view.now.own) old old c.loop.invariant.further plain in
    record {
      store = c.turn.ensures.store ∙ c.loop.invariant.store;
      count = omega (arith, count);
      further = both_further p answers_from gone (c.loop.before + c.run_plain-before.result) 1 c.args.self.now c.run_plain-before.new.self c.turn.new.self (own_effects c.args.view.now.own) old new here turned;
    }

pub returns-in_default : goal.returns-in_default
returns-in_default g c =
    let p = c.args.procedure.now in
    let old = own_effects c.loop.view.own in
    let answers_from = g.S.Store.answers_from c.args.view.now.store in
    let gone = g.S.Store.is_gone c.args.view.now.store in
    let plain = plain_further p answers_from gone c.run_plain-before.result c.loop.self c.run_plain-before.new.self old (λ args rows k. c.run_plain-before.ensures.run args rows k old) in
    let here = both_further p answers_from gone c.loop.before c.run_plain-before.result c.args.self.now c.loop.self c.run_plain-before.new.self (own_effects c.args.view.now.own) old old c.loop.invariant.further plain in
    record {
      ends = c.in_default.not-More;
      last = c.turn.ensures.last;
      store = c.turn.ensures.store ∙ c.loop.invariant.store;
      run = λ args rows k suits answers h.
          let there = here args rows k suits answers h in (
            c.turn.ensures.short args rows _ suits there.0,
            there.1,
            (rw c.loop.invariant.store at c.turn.ensures.run) args rows _ suits answers there.0,
          );
    }

pub unreachable-requires : goal.unreachable-requires
unreachable-requires g c =
    let (args, rows, k, suits, answers, h) = c.requires.on c.requires.more in
    let there = c.loop.invariant.further args rows k suits answers h in
    let s = there.0.here in
    let short = c.runs_go_on_or_end.ensures.short c.args.procedure.now args rows _ s.state s.sound suits s.at in
    let bound = c.bound-end.ensures in
    let count = c.loop.invariant.count in
    absurd (omega (arith, short, bound, count))
