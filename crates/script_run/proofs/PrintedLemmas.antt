-- What a run has printed, by how it ends.
use Rattle.std.proofs.Common.{◌≡◌, ℕ, inr, List, Option, Some, None, IfSome, Ok, Err, refl}
use Rattle.std.specs.Io.KnownBytes.{Appends}
use Rattle.byte_output.specs.Writes.{AppendsBeginning}
use Rattle.script.proofs.TellingLemmas.{if_known}
use Rattle.script_run.specs.Calls.{Said, script_says}
use Rattle.script.specs.declared.stop.Stop.{Stop}
use Rattle.script.specs.declared.stop.Stop.TheVariants.{Fault, Input, Output}
use Rattle.script_run.specs.Printed.{IsReportOf, PrintsNoMore, PrintsReport, PrintsRun, RunReport, run_text}

begun : (old new : Option (List ℕ)) (r : RunReport) (stop : Stop) → PrintsReport old new (run_text r) (Err stop) → AppendsBeginning old new (run_text r)
begun old new r (Fault fault) printed = printed.1
begun old new r (Input error) printed = absurd printed
begun old new r (Output error) printed = printed

pub some_printed : (remaining old new : Option (List ℕ)) (said : Said) (r : RunReport) (stop : Stop)
    → ((bytes : List ℕ) → remaining ≡ Some bytes → script_says bytes ≡ Ok said) → IsReportOf said r → PrintsReport old new (run_text r) (Err stop)
    → PrintsNoMore remaining old new
some_printed remaining old new said r stop says is printed = inr (said, r, if_known remaining _ says, is, begun old new r stop printed)

pub all_printed : (remaining old new : Option (List ℕ)) (said : Said) (r : RunReport) → ((bytes : List ℕ) → remaining ≡ Some bytes → script_says bytes ≡ Ok said)
    → IsReportOf said r → Appends old new (run_text r) → IfSome remaining (λ bytes. PrintsRun bytes old new)
all_printed None old new said r says is appends = tt
all_printed (Some bytes) old new said r says is appends = (said, r, says bytes refl, is, appends)
