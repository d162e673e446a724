use Rattle.std.proofs.Common.{◌∙◌, arith}
use Rattle.plain_replayer.proofs.ProcedureLemmas.{of_snapshot, none_at_snapshot}
use Rattle.plain_replayer.proofs.procedures.procedure_of_call.Goals as goal

pub returns-then-snapshot-past : goal.returns-then-snapshot-past
returns-then-snapshot-past g c =
    c.procedure_by_number.ensures
    ∙ of_snapshot c.args.setting.now c.args.log.now c.args.past.now _ c.snapshot-snapshot.result c.args.call.now c.procedure.result c.split_at.ensures.front c.snapshot-snapshot.ensures.snapshot (omega arith) c.procedure.ensures

pub returns-else-snapshot-past : goal.returns-else-snapshot-past
returns-else-snapshot-past g c = none_at_snapshot c.args.setting.now c.args.log.now c.args.past.now c.snapshot-snapshot.result c.args.call.now c.snapshot-snapshot.ensures.snapshot (omega arith)
