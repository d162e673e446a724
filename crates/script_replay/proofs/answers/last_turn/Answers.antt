use Rattle.std.proofs.Common.{◌≡◌, suc, ◌+◌, ◌-◌, zero, subst, arith, rules, refl, ◌∙◌}
use Rattle.log_model.specs.Log.{Setting}
use Rattle.dsm_model.specs.World.{Turn as TurnStep, IsStep}
use Rattle.dsm_world.specs.System.{setting_of, world_of}
use Rattle.script_replay.specs.Actions.{is_more}
use Rattle.script_replay.proofs.RepeatLemmas.{Ran, none_ran, ran_more, ran_last, ran_out}
use Rattle.script_replay.proofs.answers.last_turn.Goals as goal

pub loop-init : goal.loop-init
loop-init g c =
    let w = setting_of c.args.world.now in
    let start = world_of c.args.world.now in
    let all : c.args.most ≡ suc (c.args.most - 1) = (let one = c.requires in omega arith) in
    (subst (λ k. Ran w (TurnStep c.args.call) is_more c.args.most k start start) all (none_ran w (TurnStep c.args.call) is_more c.args.most start), refl)

pub loop-preserved : goal.loop-preserved
loop-preserved g c =
    let w = setting_of c.args.world.now in
    let start = world_of c.args.world.now in
    let here = world_of c.loop.world in
    let next = world_of c.step-outcome.new.self in
    let outcome = c.step-outcome.result in
    let left : suc (c.args.most - c.loop.counter) ≡ suc (suc (c.args.most - (c.loop.counter + 1))) = omega arith in
    let ran = subst (λ k. Ran w (TurnStep c.args.call) is_more c.args.most k start here) left c.loop.invariant.0 in
    let is = subst (λ (v : Setting). IsStep v here (TurnStep c.args.call) outcome next) c.loop.invariant.1 c.step-outcome.ensures.step in
    (ran_more w (TurnStep c.args.call) is_more c.args.most _ start here next outcome ran is (search rules), c.step-outcome.ensures.setting ∙ c.loop.invariant.1)

pub returns-then-not-is_more-clause-turned : goal.returns-then-not-is_more-clause-turned
returns-then-not-is_more-clause-turned g c =
    let w = setting_of c.args.world.now in
    let start = world_of c.args.world.now in
    let here = world_of c.loop.world in
    let next = world_of c.step-outcome.new.self in
    let outcome = c.step-outcome.result in
    let is = subst (λ (v : Setting). IsStep v here (TurnStep c.args.call) outcome next) c.loop.invariant.1 c.step-outcome.ensures.step in
    let left : suc (c.args.most - c.loop.counter) ≡ suc (c.args.most - c.loop.counter) = refl in
    ran_last w (TurnStep c.args.call) is_more c.args.most (c.args.most - c.loop.counter) start here next outcome c.loop.invariant.0 is (search rules)

pub returns-clause-turned : goal.returns-clause-turned
returns-clause-turned g c =
    let w = setting_of c.args.world.now in
    let start = world_of c.args.world.now in
    let here = world_of c.loop.world in
    let next = world_of c.step.new.self in
    let outcome = c.step.result in
    let left : suc (c.args.most - c.loop.counter) ≡ suc zero = (let one = c.requires in omega arith) in
    let ran = subst (λ k. Ran w (TurnStep c.args.call) is_more c.args.most k start here) left c.loop.invariant.0 in
    let is = subst (λ (v : Setting). IsStep v here (TurnStep c.args.call) outcome next) c.loop.invariant.1 c.step.ensures.step in
    ran_out w (TurnStep c.args.call) is_more c.args.most start here next outcome ran is
