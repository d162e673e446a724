use Rattle.std.proofs.Common.{◌≡◌, All, vec_len}
use mathlib.Core.List.{IsPrefix}
use Rattle.script_run.specs.Answered.{IsEndOf}
use Rattle.script_run.proofs.answers.ends_of.Given as goal

abbrev pub invariant-loop-replica : goal.invariant-loop-replica
invariant-loop-replica g l =
    (vec_len l.ends ≡ l.replica-index) × IsPrefix l.fn.log l.log × All (IsEndOf g.J.LogSetting.setting l.log) l.ends.items
