use Rattle.std.proofs.Common.{All}
use Rattle.script_run.specs.Answered.{IsMadeCall}
use Rattle.script_run.specs.Planned.{planned_calls}
use Rattle.script_run.proofs.asking.Asking.ask_from.Given as goal

abbrev pub invariant-loop : goal.invariant-loop
invariant-loop g l = All (IsMadeCall g.J.LogSetting.setting l.desk.replicas (planned_calls l.self.calls.items)) l.share.items
