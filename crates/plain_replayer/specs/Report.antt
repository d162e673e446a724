-- What is said of an item of a log.
use Rattle.std.specs.Prelude.{ℕ, List, [], Option, None}
use Rattle.std.specs.FinMap.{empty}
use Rattle.schema.specs.declared.look.Look.{Look}
use Rattle.schema.specs.Rows.{Writes}
use Rattle.bpf_semantics.specs.Run.{Run}
use Rattle.log_model.specs.declared.request.RequestId.{RequestId}
use Rattle.log_model.specs.declared.verdict.Verdict.{Verdict}
use Rattle.log_model.specs.Log.{or_idle}

pub record Report : Type 0 where
  pub request : Option RequestId  -- that it carried
  pub reply : ℕ
  pub looks : List Look
  pub writes : Writes
  pub verdict : Verdict
  pub comparisons : List ℕ
  pub told : Option ℕ  -- the reply that its caller is told

-- of a call, by its run, where there is one
abbrev pub report_by_run : Option RequestId → Option Run → Verdict → List ℕ → Option ℕ → Report
report_by_run request run verdict comparisons told = record {
  request = request;
  reply = (or_idle empty run).reply;
  looks = (or_idle empty run).looks;
  writes = (or_idle empty run).writes;
  verdict = verdict;
  comparisons = comparisons;
  told = told;
}

-- of an addition: its verdict alone
abbrev pub report_of_addition : Verdict → Report
report_of_addition verdict = report_by_run None None verdict [] None
