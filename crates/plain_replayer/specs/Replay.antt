-- What a replay says of a log.
use Rattle.std.specs.Prelude.{◌≡◌, ℕ, zero, suc, ◌+◌, ◌-◌, nat_le, ◌&&◌, Bool, false, if◌then◌else◌, List, [], ◌∷◌, ◌++◌, length, map, take, drop, slice_get, slice_index_or, Option, Some, None, option_map}
use Rattle.std.specs.List.{cons_option}
use Rattle.std.specs.FinMap.{empty}
use Rattle.schema.specs.declared.look.Look.{Look}
use Rattle.schema.specs.Rows.{Rows}
use Rattle.bpf_semantics.specs.Run.{Run}
use Rattle.sig_lanes.specs.Signature.{shares_bit}
use Rattle.log_model.specs.declared.verdict.Verdict.{Verdict}
use Rattle.log_model.specs.declared.verdict.Verdict.TheVariants.{Commit, Conflict, Stale, Repeated, Taken}
use Rattle.plain_replayer.specs.Report.{Report, report_of_addition}
use Rattle.log_model.specs.Log.{StoredProcedure, Catalogue, Setting, reply_done, Call, Item, CallItem, AdditionItem, Log, run_of_call, CertifiedItem, is_commit, conflicts, first_position, unless_conflict, verdict_after, verdict_on_addition, if_commits, verdict_of, run_in}
use Rattle.certify.specs.Comparisons.{comparisons_from, comparisons_after, comparisons_of}

-- of each item, and the rows before the first and after each
pub record Replay : Type 0 where
  pub reports : List Report
  pub rows : List Rows

-- the reply of a call's run
abbrev pub reply_of_item : Setting → Log → Option Item → Option ℕ
reply_of_item w log (Some (CallItem call)) = Some (run_in w log call).reply
reply_of_item w log (Some (AdditionItem p)) = None
reply_of_item w log None = None

-- the reply that the caller of a call with this verdict is told: where it commits its own. Where it is repeated, the reply is
-- that of the call that it repeats, or of its request where this was done before the log
abbrev pub told_reply : Setting → Log → Call → Verdict → Option ℕ
told_reply w log call Commit = Some (run_in w log call).reply
told_reply w log call (Repeated zero) = reply_done w.beginning.requests call.request
told_reply w log call (Repeated (suc before)) = reply_of_item w log (slice_get log before)
told_reply w log call (Conflict position) = None
told_reply w log call Stale = None
told_reply w log call (Taken identifier) = None

-- what the log says of the call that comes after so many items
pub record IsReportOfCall (w : Setting) (log : Log) (before : ℕ) (call : Call) (report : Report) : Type 0 where
  pub request : report.request ≡ call.request
  pub reply : report.reply ≡ (run_in w log call).reply
  pub looks : report.looks ≡ (run_in w log call).looks
  pub writes : report.writes ≡ (run_in w log call).writes
  pub verdict : verdict_of w log (suc before) ≡ Some report.verdict
  pub comparisons : report.comparisons ≡ comparisons_of w log before call
  pub told : report.told ≡ told_reply w log call report.verdict

-- and of an addition: its verdict alone
pub record IsReportOfAddition (w : Setting) (log : Log) (before : ℕ) (report : Report) : Type 0 where
  pub verdict : verdict_of w log (suc before) ≡ Some report.verdict
  pub alone : report ≡ report_of_addition report.verdict

abbrev pub IsReportOf : Setting → Log → ℕ → Item → Report → Type 0
IsReportOf w log before (CallItem call) report = IsReportOfCall w log before call report
IsReportOf w log before (AdditionItem p) report = IsReportOfAddition w log before report

-- the procedure that an item adds, where it has this verdict
abbrev pub added_by : Option Item → Verdict → Option StoredProcedure
added_by (Some (AdditionItem p)) verdict = if is_commit verdict then Some p else None
added_by (Some (CallItem call)) verdict = None
added_by None verdict = None

-- those that the items after so many add, by what is said of each
unfoldable pub added_from : Log → ℕ → List Report → Catalogue
added_from log before [] = []
added_from log before (report ∷ later) = cons_option (added_by (slice_get log before) report.verdict) (added_from log (before + 1) later)

-- the procedures after the items of which this is said: those of the beginning, and behind them those that were added
abbrev pub procedures_of : Setting → Log → List Report → Catalogue
procedures_of w log reports = w.beginning.procedures ++ added_from log 0 reports

-- ---- No clause that a caller sees speaks of what follows.

abbrev pub certified_of : Report → CertifiedItem
certified_of report = record { request = report.request; writes = report.writes; verdict = report.verdict }

-- a comparison with the item at a position, where it is made
abbrev pub comparison_at : List Look → ℕ → CertifiedItem → List ℕ
comparison_at looks position c = if is_commit c.verdict && shares_bit looks c.writes then position ∷ [] else []

-- the verdict on the next item, a call that isn't repeated
abbrev pub verdict_on_new : ℕ → List CertifiedItem → Call → List Look → Verdict
verdict_on_new window past call looks =
    if nat_le (length past - call.snapshot) window
    then unless_conflict (first_position (conflicts looks) (call.snapshot + 1) (drop call.snapshot past))
    else Stale

-- and its comparisons
abbrev pub comparisons_on_new : ℕ → List CertifiedItem → Call → List Look → List ℕ
comparisons_on_new window past call looks =
    if nat_le (length past - call.snapshot) window then comparisons_from looks (call.snapshot + 1) (drop call.snapshot past) else []

-- whether there is a procedure, and it passes
abbrev pub passes : (StoredProcedure → Bool) → Option StoredProcedure → Bool
passes test None = false
passes test (Some p) = test p

-- the procedures after a position; past those of which something is said there are none
abbrev pub procedures_at : Setting → Log → List Report → ℕ → Catalogue
procedures_at w log reports position = if nat_le position (length reports) then procedures_of w log (take position reports) else []

-- what is told of a call, by what was said of the items before it
abbrev pub told_by : List Report → Verdict → ℕ → Option ℕ
told_by past Commit reply = Some reply
told_by past (Repeated position) reply = option_map (λ r. r.reply) (slice_get past (position - 1))
told_by past (Conflict position) reply = None
told_by past Stale reply = None
told_by past (Taken identifier) reply = None

-- of a call with a run, by what was said of the items before it
abbrev pub report_of_run : Setting → List Report → Call → Run → Report
report_of_run w past call r = record {
  request = call.request;
  reply = r.reply;
  looks = r.looks;
  writes = r.writes;
  verdict = verdict_after w.window w.beginning.requests (map certified_of past) call r.looks;
  comparisons = comparisons_after w.window w.beginning.requests (map certified_of past) call r.looks;
  told = told_by past (verdict_after w.window w.beginning.requests (map certified_of past) call r.looks) r.reply;
}

-- the run of a call of the procedures of its snapshot, on some rows
abbrev pub run_by : Setting → Log → List Report → Call → Rows → Run
run_by w log past call rows = run_of_call w.tables (procedures_at w log past call.snapshot) call rows

-- of the next item, by what was said of those before and by the rows at each position so far
abbrev pub report_after : Setting → Log → List Report → List Rows → Item → Report
report_after w log past rows (CallItem call) = report_of_run w past call (run_by w log past call (slice_index_or rows call.snapshot empty))
report_after w log past rows (AdditionItem p) = report_of_addition (verdict_on_addition (procedures_of w log past) p)

-- the rows after it: a call that commits runs once more, on the rows now
abbrev pub rows_after_next : Setting → Log → List Report → Rows → Item → Verdict → Rows
rows_after_next w log past now (CallItem call) verdict = if_commits verdict (run_by w log past call now).effect now
rows_after_next w log past now (AdditionItem p) verdict = now
