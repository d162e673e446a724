use Rattle.std.proofs.Common.{◌≡◌, ℕ, List, All, vec_len}
use Rattle.script_run.specs.declared.call.ScriptCall.{ScriptCall}
use Rattle.script_run.specs.Answered.{AreFoundOf, IsMadeCall}
use Rattle.script_run.proofs.answers.Found.put_share.Given as goal

abbrev pub invariant-loop-made : goal.invariant-loop-made
invariant-loop-made g l =
    ((replicas : ℕ) (calls : List (ScriptCall (List ℕ))) → AreFoundOf g.J.LogSetting.setting replicas l.fn.self.log calls l.fn.self.answers.items
    → All (IsMadeCall g.J.LogSetting.setting replicas calls) l.share.items
    → AreFoundOf g.J.LogSetting.setting replicas l.self.log calls l.self.answers.items)
    × (vec_len l.self.answers ≡ vec_len l.fn.self.answers)
