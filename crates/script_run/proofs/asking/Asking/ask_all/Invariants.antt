use Rattle.std.proofs.Common.{◌≡◌, All, false}
use Rattle.script_run.specs.Answered.{IsMadeCall}
use Rattle.script_run.specs.Planned.{planned_calls}
use Rattle.script_run.proofs.asking.Asking.ask_all.Given as goal

abbrev pub invariant-loop-start : goal.invariant-loop-start
invariant-loop-start g l =
    (l.shows_progress ≡ false → l.faults ≡ l.fn.faults)
    × All (λ share. All (IsMadeCall g.J.LogSetting.setting l.desk.replicas (planned_calls l.self.calls.items)) share.items) l.shares.items
