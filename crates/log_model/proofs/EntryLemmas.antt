-- The rows by what entries carry.
use Rattle.std.proofs.Common.{◌≡◌, ℕ, zero, suc, ◌≤◌, ◌<◌, List, [], ◌∷◌, length, slice_get, option_map, None, IsSome, refl, sym, ◌∙◌, arith}
use Rattle.log_model.specs.InstalledWrites.{map_after}
use Rattle.log_model.specs.Log.{Setting, Log, IsLog, CertifiedItem, history, rows_after, verdict_of}
use Rattle.log_model.specs.Fit.{BeginsSafely, AllFitLog}
use Rattle.log_model.specs.Entries.{Entry, items_of, CarryRuns, certified_entries_of, installed_from}
use Rattle.log_model.proofs.LaidLemmas.{map_is_laid_on}
use Rattle.log_model.proofs.CallLemmas.{rows_by_entries, count_history, history_kept}

pub rows_installed : (w : Setting) (entries : List Entry) (position : ℕ) → BeginsSafely w → IsLog (items_of entries) → AllFitLog w (items_of entries) → CarryRuns w entries → position ≤ length entries
    → map_after w.beginning.rows (installed_from 1 (certified_entries_of w.window w.beginning entries).certified) position ≡ rows_after w (items_of entries) position
rows_installed w entries position safe below calls carry le =
    map_is_laid_on w.beginning.rows (certified_entries_of w.window w.beginning entries).certified position ∙ rows_by_entries w entries position safe below calls carry le

-- the same of the log
pub rows_of_log : (w : Setting) (log : Log) (position : ℕ) → BeginsSafely w → IsLog log → AllFitLog w log → position ≤ length log
    → map_after w.beginning.rows (installed_from 1 (history w log).certified) position ≡ rows_after w log position
rows_of_log w log position safe below calls le =
    let count = count_history w log in
    map_is_laid_on w.beginning.rows (history w log).certified position ∙ sym ((history_kept w log safe below calls).laid_on position (omega arith))

-- there is a verdict at each position of the log, and at no other
pub verdict_there : (w : Setting) (log : Log) (d : ℕ) → d < length log → IsSome (verdict_of w log (suc d))
verdict_there w log d lt = let count = count_history w log in found (history w log).certified d (omega arith)
  where
    found : (cs : List CertifiedItem) (d : ℕ) → d < length cs → IsSome (option_map (λ (c : CertifiedItem). c.verdict) (slice_get cs d))
    found [] d lt = absurd (omega arith)
    found (c ∷ cs) zero lt = refl
    found (c ∷ cs) (suc d) lt = found cs d (omega arith)

pub none_beyond : (w : Setting) (log : Log) (d : ℕ) → length log ≤ d → verdict_of w log (suc d) ≡ None
none_beyond w log d le = let count = count_history w log in missing (history w log).certified d (omega arith)
  where
    missing : (cs : List CertifiedItem) (d : ℕ) → length cs ≤ d → option_map (λ (c : CertifiedItem). c.verdict) (slice_get cs d) ≡ None
    missing [] d le = refl
    missing (c ∷ cs) zero le = absurd (omega arith)
    missing (c ∷ cs) (suc d) le = missing cs d (omega arith)
