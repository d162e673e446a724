use Rattle.script_run.specs.Reading.{said_by}
use Rattle.script_run.specs.Printed.{report_of}
use Rattle.std.proofs.Common.{inl, refl}
use Rattle.script_run.proofs.PrintedLemmas.{all_printed, some_printed}
use Rattle.script_run.proofs.run.run_over.Goals as goal

pub returns-in-Err-clause-failed : goal.returns-in-Err-clause-failed
returns-in-Err-clause-failed g c = λ _. inl refl

pub returns-in-Err-NoMemory-clause-failed : goal.returns-in-Err-NoMemory-clause-failed
returns-in-Err-NoMemory-clause-failed g c = λ _. inl refl

pub returns-in-Err-Start-clause-failed : goal.returns-in-Err-Start-clause-failed
returns-in-Err-Start-clause-failed g c = λ _. inl refl

pub returns-in-Ok-print-clause-done : goal.returns-in-Ok-print-clause-done
returns-in-Ok-print-clause-done g c = λ _.
    all_printed (g.I.Read.remaining c.args.input.now) (g.W.Write.contents c.args.output.now) (g.W.Write.contents c.print.new.output)
    (said_by c.in-Ok.script) (report_of c.in-Ok-run_script.report) c.in-Ok.ensures.exact c.in-Ok-run_script.ensures.report c.in-Ok-print.ensures

pub returns-clause-failed : goal.returns-clause-failed
returns-clause-failed g c = λ _.
    some_printed (g.I.Read.remaining c.args.input.now) (g.W.Write.contents c.args.output.now) (g.W.Write.contents c.print.new.output)
    (said_by c.in-Ok.script) (report_of c.in-Ok-run_script.report) c.in-Err-print.stop c.in-Ok.ensures.exact c.in-Ok-run_script.ensures.report c.in-Err-print.ensures
