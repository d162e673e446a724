use Rattle.std.proofs.Common.{◌≡◌, ◌≤◌, length}
use Rattle.std.specs.Prelude.{vec_len, vec_capacity}
use Rattle.node.specs.Requests.{AreHeardOf}
use Rattle.node.proofs.pending.PendingCalls.hear.Given as goal

abbrev pub invariant-loop-place : goal.invariant-loop-place
invariant-loop-place g l =
    (vec_len l.answers ≡ l.place) × (length l.requests ≤ vec_capacity l.answers)
    × AreHeardOf g.J.LogSetting.setting l.desk.replicas l.replica l.requests l.answers.items
