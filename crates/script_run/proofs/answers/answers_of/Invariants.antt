use Rattle.std.proofs.Common.{◌≡◌, vec_len}
use Rattle.script_run.specs.Answered.{AreFoundOf, AreToldOf}
use Rattle.script_run.specs.Planned.{planned_calls}
use Rattle.script_run.proofs.answers.answers_of.Given as goal

abbrev pub invariant-loop-share : goal.invariant-loop-share
invariant-loop-share g l =
    AreFoundOf g.J.LogSetting.setting l.desk.replicas l.found.log (planned_calls l.asking.calls.items) l.found.answers.items
    × (vec_len l.found.answers ≡ vec_len l.asking.calls)

abbrev pub invariant-loop-place : goal.invariant-loop-place
invariant-loop-place g l =
    AreFoundOf g.J.LogSetting.setting l.desk.replicas l.found.log (planned_calls l.asking.calls.items) l.found.answers.items
    × (vec_len l.found.answers ≡ vec_len l.asking.calls)
    × AreToldOf g.J.LogSetting.setting l.desk.replicas l.found.log (planned_calls l.asking.calls.items) l.answers.items
    × (vec_len l.answers ≡ l.place)
