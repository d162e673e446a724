-- Each open call goes on well.
use Rattle.std.proofs.Common.{◌≡◌, ◌≢◌, ℕ, ◌+◌, ◌≤◌, Some, ◌∙◌, ◌⊎◌, inl, inr, arith}
use Rattle.std.proofs.lemmas.Bool.{cases_lt}
use Rattle.bpf_semantics.specs.State.{State}
use Rattle.bpf_semantics.specs.Step.{Going, Ended, Stuck}
use Rattle.bpf_semantics.specs.Path.{longest_path}
use Rattle.bpf_semantics.proofs.MomentLemmas.{before_its_length, from_its_length_on}
use Rattle.log_model.specs.Log.{Setting, Call, Log, rows_after, run_in, moment_at, procedures_after}
use Rattle.log_model.specs.Fit.{BeginsSafely, IsCall}
use Rattle.dsm_model.specs.World.{World, open_call}
use Rattle.log_model.specs.OpenCall.{OpenCall}
use Rattle.dsm_model.specs.Sound.{IsOpenCall, IsWorld, IsSound}
use Rattle.log_model.proofs.RunLemmas.{HasRun, has_run}
use Rattle.log_model.proofs.GrowthLemmas.{rows_fit, procedures_safe}
use Rattle.log_model.proofs.NextLemmas.{at_procedure}
use Rattle.dsm_model.proofs.WorldLemmas.{begun_within}

-- what is known of the run of an open call
pub open_run : (w : Setting) (world : World) (o : OpenCall) → BeginsSafely w → IsWorld w world → (one : IsOpenCall w world o) → HasRun w.tables (procedures_after w world.log o.call.snapshot) o.call (rows_after w world.log o.call.snapshot) one.is_call
open_run w world o safe is one = has_run w.tables (procedures_after w world.log o.call.snapshot) o.call (rows_after w world.log o.call.snapshot) (procedures_safe w world.log o.call.snapshot safe is.log is.items (begun_within w world o is one)) one.is_call (rows_fit w world.log o.call.snapshot safe is.log is.items (begun_within w world o is one))

ended : (w : Setting) (log : Log) (call : Call) (c : IsCall w log call) (k : ℕ) → HasRun w.tables (procedures_after w log call.snapshot) call (rows_after w log call.snapshot) c → (run_in w log call).steps ≤ k → (s : State) × (moment_at w log call k ≡ Ended (run_in w log call).reply s)
ended w log call c k has le =
    let end = from_its_length_on c.procedure.program w.tables call.args (rows_after w log call.snapshot) (run_in w log call) k has.run le in
    (end.0, at_procedure w log call c.procedure k c.known ∙ end.1)

not_stuck : (w : Setting) (log : Log) (call : Call) (c : IsCall w log call) (k : ℕ) → HasRun w.tables (procedures_after w log call.snapshot) call (rows_after w log call.snapshot) c → moment_at w log call k ≢ Stuck
not_stuck w log call c k has stuck = elim (cases_lt k (run_in w log call).steps) [
  | inl lt ↦
      let on = before_its_length c.procedure.program w.tables call.args (rows_after w log call.snapshot) (run_in w log call) k has.run lt in
      let goes = on.1 in
      let there = at_procedure w log call c.procedure k c.known in
      cc
  | inr ge ↦ let end = (ended w log call c k has ge).1 in cc
]

so_far : (w : Setting) (log : Log) (call : Call) (c : IsCall w log call) (k : ℕ) → HasRun w.tables (procedures_after w log call.snapshot) call (rows_after w log call.snapshot) c → k ≤ (run_in w log call).steps
    → ((s : State) × (moment_at w log call k ≡ Going s) × (s.steps ≡ k)) ⊎ ((s : State) × (moment_at w log call k ≡ Ended (run_in w log call).reply s) × (k ≡ (run_in w log call).steps))
so_far w log call c k has le = elim (cases_lt k (run_in w log call).steps) [
  | inl lt ↦
      let on = before_its_length c.procedure.program w.tables call.args (rows_after w log call.snapshot) (run_in w log call) k has.run lt in
      inl (on.0, at_procedure w log call c.procedure k c.known ∙ on.1, on.2)
  | inr ge ↦
      let end = ended w log call c k has ge in
      inr (end.0, end.1, omega arith)
]

pub sound : (w : Setting) (world : World) (o : OpenCall) → BeginsSafely w → IsWorld w world → IsOpenCall w world o → IsSound w world.log o
sound w world o safe is one =
    let has = open_run w world o safe is one in
    let end = ended w world.log o.call one.is_call (longest_path one.is_call.procedure.program) has has.short in
    let short = has.short in
    let turns = one.turns in
    record {
      is_call = one.is_call;
      so_far = so_far w world.log o.call one.is_call o.turns has one.turns;
      not_stuck = not_stuck w world.log o.call one.is_call (o.turns + 1) has;
      within = omega arith;
      end = end.0;
      ends = end.1;
    }

pub open_sound : (w : Setting) (world : World) (c : ℕ) (o : OpenCall) → BeginsSafely w → IsWorld w world → open_call world c ≡ Some o → IsSound w world.log o
open_sound w world c o safe is e = sound w world o safe is (is.open_calls c o e)
