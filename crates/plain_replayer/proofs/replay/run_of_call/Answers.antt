use Rattle.std.proofs.Common.{◌∙◌, ap}
use Rattle.std.specs.Prelude.{Option}
use Rattle.std.proofs.lemmas.Result.{IfOk-weaker}
use Rattle.bpf_semantics.specs.Run.{run}
use Rattle.log_model.specs.Log.{StoredProcedure, run_of_procedure}
use Rattle.plain_runner.specs.Listed.{rows_of}
use Rattle.plain_replayer.proofs.replay.run_of_call.Goals as goal

pub returns-in-Some : goal.returns-in-Some
returns-in-Some g c = IfOk-weaker c.run_program.result _ _
    (λ answer is.
    is ∙ (λ i. run (c.code.ensures i) (c.schema.ensures i) (c.args-in-Some.ensures i) (rows_of c.args.rows.now))
    ∙ ap (λ (o : Option StoredProcedure). run_of_procedure c.args.setting.now.tables o c.args.call.now.args (rows_of c.args.rows.now)) c.in-Some.ensures)
    c.run_program.ensures
