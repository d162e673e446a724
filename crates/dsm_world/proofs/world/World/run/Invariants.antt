use Rattle.std.proofs.Common.{◌≡◌, ◌≤◌, length, map, take, vec_len, vec_capacity}
use Rattle.dsm_model.specs.World.{AreSteps}
use Rattle.dsm_model.specs.Sound.{AreGiven}
use Rattle.dsm_world.specs.System.{setting_of, world_of, step_of}
use Rattle.dsm_world.proofs.world.World.run.Given as goal

abbrev pub invariant-loop-step : goal.invariant-loop-step
invariant-loop-step g l = record {
  done : AreSteps (setting_of l.fn.self) (world_of l.fn.self) (map (step_of (setting_of l.fn.self)) (take l.step-index l.steps)) l.outcomes.items (world_of l.self);
  given : AreGiven (setting_of l.fn.self) (map (step_of (setting_of l.fn.self)) (take l.step-index l.steps)) l.outcomes.items;
  answered : length (map (step_of (setting_of l.fn.self)) (take l.step-index l.steps)) ≡ length l.outcomes.items;
  same : setting_of l.self ≡ setting_of l.fn.self;
  count : vec_len l.outcomes ≡ l.step-index;
  room : length l.steps ≤ vec_capacity l.outcomes;
}
