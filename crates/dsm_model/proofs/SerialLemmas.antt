-- What a call that commits leaves.
use Rattle.std.proofs.Common.{◌≡◌, ℕ, suc, Some, slice_get, ap, ◌∙◌}
use Rattle.schema.specs.Rows.{after_writes}
use Rattle.bpf_semantics.specs.Run.{Run}
use Rattle.log_model.specs.declared.verdict.Verdict.TheVariants.{Commit}
use Rattle.log_model.specs.Log.{Setting, Call, CallItem, Log, IsLog, rows_after, verdict_of, run_in}
use Rattle.log_model.specs.Fit.{BeginsSafely, AreItems}
use Rattle.log_model.proofs.CallLemmas.{rows_next, serial_run}

pub committed_rows : (w : Setting) (log : Log) (d : ℕ) (call : Call) → BeginsSafely w → IsLog log → AreItems w log → slice_get log d ≡ Some (CallItem call) → verdict_of w log (suc d) ≡ Some Commit
    → rows_after w log (suc d) ≡ after_writes (run_in w log call).writes (rows_after w log d)
committed_rows w log d call safe below calls e verdict =
    rows_next w log d call Commit below e verdict ∙ ap (λ (r : Run). r.effect) (serial_run w log d call safe below calls e verdict)
