use Rattle.std.proofs.Common.{◌≡◌, ◌<◌, ◌≤◌, Some, slice_get, List, [], length, map, refl, sym, ap, subst, ◌∙◌, arith}
use Rattle.std.proofs.lemmas.List.{take_more}
use Rattle.dsm_model.specs.declared.outcome.Outcome.{Outcome}
use Rattle.log_model.specs.declared.verdict.Verdict.TheVariants.{Commit}
use Rattle.dsm_model.specs.declared.outcome.Outcome.TheVariants.{Exit, Ordered}
use Rattle.bpf_semantics.specs.Path.{longest_path}
use Rattle.log_model.specs.Log.{Setting, procedure_of, run_in, verdict_of}
use Rattle.dsm_model.specs.Worlds.{HasExited, IsCallNumbered, turns_of}
use Rattle.dsm_model.specs.World.{Turn as TurnStep, Order as OrderStep, IsStep, AreSteps}
use Rattle.dsm_model.specs.Sound.{IsGiven, AreGiven, IsSerialReply}
use Rattle.dsm_world.specs.System.{setting_of, world_of, step_of}
use Rattle.std.specs.Prelude.{slice_index_or}
use Rattle.dsm_world.specs.declared.step.Step.{Step}
use Rattle.dsm_world.specs.declared.step.Step.TheVariants.{Begin}
use Rattle.replica.proofs.EntryLemmas.{take_all}
use Rattle.dsm_world.proofs.RunLemmas.{no_steps, one_more_step, one_more_given, one_more_answer}
use Rattle.dsm_world.proofs.world.World.run.Goals as goal

pub returns-in_err-outcomes-clause-sound : goal.returns-in_err-outcomes-clause-sound
returns-in_err-outcomes-clause-sound g c n o e =
    c.open_calls_are_sound.ensures (setting_of c.args.self.now) (world_of c.args.self.now) n o c.keeps_what_was_delivered.ensures.begins c.keeps_what_was_delivered.ensures.world e

pub loop-step-init : goal.loop-step-init
loop-step-init g c = record {
  done = subst (λ (xs : List Outcome). AreSteps (setting_of c.args.self.now) (world_of c.args.self.now) [] xs (world_of c.args.self.now)) (sym c.in_ok-outcomes.ensures.items) (no_steps (setting_of c.args.self.now) (world_of c.args.self.now));
  given = tt;
  answered = ap (λ (xs : List Outcome). length xs) (sym c.in_ok-outcomes.ensures.items);
  same = refl;
  count = (let e = c.in_ok-outcomes.ensures.len in omega arith);
  room = (let e = c.in_ok-outcomes.ensures.capacity in omega arith);
}

pub loop-step-preserved : goal.loop-step-preserved
loop-step-preserved g c =
    let s = c.args.self.now in
    let n = c.loop-step.step-index in
    let item = slice_index_or c.args.steps.now n (Begin 0 0 (record { ref_ptr = (0, 0); now = [] })) in
    let taken = take_more c.args.steps.now n (Begin 0 0 (record { ref_ptr = (0, 0); now = [] })) c.loop-step-test.true in
    let stepped = subst (λ (w : Setting). IsStep w (world_of c.loop-step.self) (step_of w item) c.step-outcome.result (world_of c.step-outcome.new.self)) c.loop-step.invariant.same c.step-outcome.ensures.step in
    record {
      done = one_more_step (setting_of s) (world_of s) c.args.steps.now n item c.loop-step.outcomes.items c.push_within.new.outcomes.items (world_of c.loop-step.self) c.step-outcome.result (world_of c.step-outcome.new.self)
          taken c.push_within.ensures.items c.loop-step.invariant.done stepped;
      given = one_more_given (setting_of s) c.args.steps.now n item c.loop-step.outcomes.items c.push_within.new.outcomes.items c.step-outcome.result taken c.push_within.ensures.items c.loop-step.invariant.answered c.loop-step.invariant.given
          (subst (λ (w : Setting). IsGiven w (step_of w item) c.step-outcome.result) c.loop-step.invariant.same c.step-outcome.ensures.given);
      answered = one_more_answer (setting_of s) c.args.steps.now n item c.loop-step.outcomes.items c.push_within.new.outcomes.items c.step-outcome.result taken c.push_within.ensures.items c.loop-step.invariant.answered;
      same = c.step-outcome.ensures.setting ∙ c.loop-step.invariant.same;
      count = (let len = c.push_within.ensures.len in let count = c.loop-step.invariant.count in omega arith);
      room = (let grown = c.push_within.ensures.capacity in let room = c.loop-step.invariant.room in omega arith);
    }

pub returns-clause-sound : goal.returns-clause-sound
returns-clause-sound g c n o e =
    c.open_calls_are_sound.ensures (setting_of c.loop-step.self) (world_of c.loop-step.self) n o c.keeps_what_was_delivered-2.ensures.begins c.keeps_what_was_delivered-2.ensures.world e

pub returns-clause-replies : goal.returns-clause-replies
returns-clause-replies g c n i j position reply =
    let s = c.args.self.now in
    let t = c.loop-step.self in
    let all = take_all c.args.steps.now c.loop-step.step-index c.loop-step-test.false in
    let done = subst (λ (xs : List Step). AreSteps (setting_of s) (world_of s) (map (step_of (setting_of s)) xs) c.loop-step.outcomes.items (world_of t)) all c.loop-step.invariant.done in
    let given = subst (λ (xs : List Step). AreGiven (setting_of s) (map (step_of (setting_of s)) xs) c.loop-step.outcomes.items) all c.loop-step.invariant.given in
    subst (λ (w : Setting). slice_get (map (step_of (setting_of s)) c.args.steps.now) i ≡ Some (TurnStep n) → slice_get c.loop-step.outcomes.items i ≡ Some (Exit reply) → slice_get (map (step_of (setting_of s)) c.args.steps.now) j ≡ Some (OrderStep n) → slice_get c.loop-step.outcomes.items j ≡ Some (Ordered position) → i < j
    → verdict_of w (world_of t).log position ≡ Some Commit → IsSerialReply w (world_of t).log position reply) (sym c.loop-step.invariant.same)
    (c.replies_are_serial.ensures (setting_of s) (world_of s) (map (step_of (setting_of s)) c.args.steps.now) c.loop-step.outcomes.items (world_of t) n i j position reply c.keeps_what_was_delivered.ensures.begins given c.keeps_what_was_delivered.ensures.world done)

pub returns-clause-exits : goal.returns-clause-exits
returns-clause-exits g c n call p =
    let s = c.args.self.now in
    let t = c.loop-step.self in
    let all = take_all c.args.steps.now c.loop-step.step-index c.loop-step-test.false in
    let done = subst (λ (xs : List Step). AreSteps (setting_of s) (world_of s) (map (step_of (setting_of s)) xs) c.loop-step.outcomes.items (world_of t)) all c.loop-step.invariant.done in
    let given = subst (λ (xs : List Step). AreGiven (setting_of s) (map (step_of (setting_of s)) xs) c.loop-step.outcomes.items) all c.loop-step.invariant.given in
    subst (λ (w : Setting). IsCallNumbered (world_of s) (map (step_of (setting_of s)) c.args.steps.now) c.loop-step.outcomes.items n call → procedure_of w (world_of t).log call ≡ Some p
    → longest_path p.program ≤ turns_of n (map (step_of (setting_of s)) c.args.steps.now) c.loop-step.outcomes.items
    → HasExited n (run_in w (world_of t).log call).reply (map (step_of (setting_of s)) c.args.steps.now) c.loop-step.outcomes.items) (sym c.loop-step.invariant.same)
    (c.enough_turns_reach_exit.ensures.exit (setting_of s) (world_of s) (map (step_of (setting_of s)) c.args.steps.now) c.loop-step.outcomes.items (world_of t) n call p c.keeps_what_was_delivered.ensures.begins given c.keeps_what_was_delivered.ensures.world done)

pub returns-clause-verdicts : goal.returns-clause-verdicts
returns-clause-verdicts g c j position v told =
    let s = c.args.self.now in
    let t = c.loop-step.self in
    let all = take_all c.args.steps.now c.loop-step.step-index c.loop-step-test.false in
    let done = subst (λ (xs : List Step). AreSteps (setting_of s) (world_of s) (map (step_of (setting_of s)) xs) c.loop-step.outcomes.items (world_of t)) all c.loop-step.invariant.done in
    subst (λ (w : Setting). verdict_of w (world_of t).log position ≡ Some v) (sym c.loop-step.invariant.same)
    (c.delivered_verdicts_are_the_logs.ensures (setting_of s) (world_of s) (map (step_of (setting_of s)) c.args.steps.now) c.loop-step.outcomes.items (world_of t) j position v done told)

pub returns-clause-once : goal.returns-clause-once
returns-clause-once g c d e a b =
    c.each_request_commits_once.ensures.once (setting_of c.loop-step.self) (world_of c.loop-step.self).log d e a b c.keeps_what_was_delivered-2.ensures.world.log

pub returns-in_err-outcomes-clause-once : goal.returns-in_err-outcomes-clause-once
returns-in_err-outcomes-clause-once g c d e a b =
    c.each_request_commits_once.ensures.once (setting_of c.args.self.now) (world_of c.args.self.now).log d e a b c.keeps_what_was_delivered.ensures.world.log

pub returns-clause-not_before : goal.returns-clause-not_before
returns-clause-not_before g c d call =
    c.each_request_commits_once.ensures.not_before (setting_of c.loop-step.self) (world_of c.loop-step.self).log d call c.keeps_what_was_delivered-2.ensures.world.log

pub returns-in_err-outcomes-clause-not_before : goal.returns-in_err-outcomes-clause-not_before
returns-in_err-outcomes-clause-not_before g c d call =
    c.each_request_commits_once.ensures.not_before (setting_of c.args.self.now) (world_of c.args.self.now).log d call c.keeps_what_was_delivered.ensures.world.log
