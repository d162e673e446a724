use Rattle.std.proofs.Common.{nat_eq}
use Rattle.log_model.specs.Log.{StoredProcedure}
use Rattle.plain_replayer.specs.Replay.{added_from}
use Rattle.plain_replayer.proofs.ProcedureLemmas.{in_first, in_second}
use Rattle.plain_replayer.proofs.procedures.procedure_by_number.Goals as goal

pub returns-in-Some : goal.returns-in-Some
returns-in-Some g c = in_first (λ (p : StoredProcedure). nat_eq p.number c.args.number) c.args.setting.now.beginning.procedures (added_from c.args.log.now 0 c.args.reports.now) c.in-Some.procedure.now c.in-Some.ensures

pub returns-in-None : goal.returns-in-None
returns-in-None g c = in_second (λ (p : StoredProcedure). nat_eq p.number c.args.number) c.args.setting.now.beginning.procedures (added_from c.args.log.now 0 c.args.reports.now) _ c.in-None.ensures c.added_by_number.ensures
