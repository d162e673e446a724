use Rattle.std.proofs.Common.{take}
use Rattle.plain_replayer.proofs.LogLemmas.{IsSoFar}
use Rattle.plain_replayer.proofs.replay.replay_log.Given as goal

abbrev pub invariant-loop-item : goal.invariant-loop-item
invariant-loop-item g l = IsSoFar l.setting l.log (take l.item-index l.log) l.reports.items l.rows.items
