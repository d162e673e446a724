use Rattle.std.proofs.Common.{◌≡◌, ◌≤◌, All}
use Rattle.std.specs.Prelude.{vec_len, vec_capacity}
use Rattle.std.specs.Arc.{arc_value}
use Rattle.replica.specs.Replica.{AreEntriesOf, entries_of}
use Rattle.node.proofs.node.Node.finish.Given as goal

abbrev pub invariant-loop-place : goal.invariant-loop-place
invariant-loop-place g l =
    (vec_len l.ended ≡ l.place) × ((arc_value l.shared).replicas ≤ vec_capacity l.ended)
    × All (λ e. AreEntriesOf g.J.LogSetting.setting (entries_of e.seen)) l.ended.items
