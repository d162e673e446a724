use Rattle.std.proofs.Common.{◌≡◌, ◌-◌, zero, subst, arith, rules, refl, ◌∙◌}
use Rattle.std.proofs.lemmas.Result.{err_from_is_err_and}
use Rattle.std.specs.List.{concat}
use Rattle.dsm_model.specs.World.{Deliver}
use Rattle.dsm_world.specs.System.{setting_of, world_of}
use Rattle.script_replay.specs.Actions.{is_delivery}
use Rattle.script_replay.proofs.RepeatLemmas.{Came, at_start, came_out, counted_fails, counted_last, counted_more}
use Rattle.script_replay.proofs.ActedLemmas.{delivers}
use Rattle.script_replay.proofs.answers.deliver.Goals as goal

pub loop-init : goal.loop-init
loop-init g c =
    let w = setting_of c.args.world.now in
    let start = world_of c.args.world.now in
    let all : c.args.most ≡ c.args.most - 0 = omega arith in (
      subst (λ k. Came g.W.Write.contents w (Deliver c.args.replica) is_delivery c.args.most k start start c.args.output.now c.args.output.now) all
          (at_start g.W.Write.contents w (Deliver c.args.replica) is_delivery c.args.most start c.args.output.now),
      refl,
      refl,
    )

pub loop-preserved : goal.loop-preserved
loop-preserved g c = (
  counted_more g.W.Write.contents (setting_of c.loop.world) (setting_of c.args.world.now) (Deliver c.args.replica) is_delivery c.args.most c.loop.counter (world_of c.args.world.now) (world_of c.loop.world) (world_of c.step.new.world) c.args.output.now c.loop.output c.step.new.output
      c.in_ok-outcome.outcome (omega arith) c.loop.invariant.1 c.loop.invariant.0 c.in_ok-outcome.ensures.stepped (search rules),
  c.step.ensures.setting ∙ c.loop.invariant.1,
  c.step.ensures.same_output ∙ c.loop.invariant.2,
)

pub returns-then-not-is_delivery-clause-done : goal.returns-then-not-is_delivery-clause-done
returns-then-not-is_delivery-clause-done g c =
    let d = counted_last g.W.Write.contents (setting_of c.loop.world) (setting_of c.args.world.now) (Deliver c.args.replica) is_delivery c.args.most c.loop.counter (world_of c.args.world.now) (world_of c.loop.world) (world_of c.step.new.world) c.args.output.now c.loop.output c.step.new.output
    c.in_ok-outcome.outcome (omega arith) c.loop.invariant.1 c.loop.invariant.0 c.in_ok-outcome.ensures.stepped (search rules) in
    (concat d.0, delivers (setting_of c.args.world.now) (world_of c.args.world.now) c.args.replica c.args.most d.0 (world_of c.step.new.world) d.1, d.2)

pub returns-in_err-outcome-clause-done : goal.returns-in_err-outcome-clause-done
returns-in_err-outcome-clause-done g c =
    let f = c.in_err-outcome.ensures.failed in
    let d = counted_fails g.W.Write.contents (setting_of c.loop.world) (setting_of c.args.world.now) (Deliver c.args.replica) is_delivery c.args.most c.loop.counter (world_of c.args.world.now) (world_of c.loop.world) (world_of c.step.new.world) c.args.output.now c.loop.output c.step.new.output
    f.0 (omega arith) c.loop.invariant.1 c.loop.invariant.0 f.1 f.2 in
    let q = err_from_is_err_and c.from_residual.result c.from_residual.ensures.1 in
    rw q.1 (concat d.0, d.1, delivers (setting_of c.args.world.now) (world_of c.args.world.now) c.args.replica c.args.most d.0 d.1 d.2, d.3)

pub returns-clause-done : goal.returns-clause-done
returns-clause-done g c =
    let w = setting_of c.args.world.now in
    let start = world_of c.args.world.now in
    let here = world_of c.loop.world in
    let left : c.args.most - c.loop.counter ≡ zero = omega arith in
    let came = subst (λ k. Came g.W.Write.contents w (Deliver c.args.replica) is_delivery c.args.most k start here c.args.output.now c.loop.output) left c.loop.invariant.0 in
    let d = came_out g.W.Write.contents w (Deliver c.args.replica) is_delivery c.args.most start here c.args.output.now c.loop.output came in
    (concat d.0, delivers w start c.args.replica c.args.most d.0 here d.1, d.2)
