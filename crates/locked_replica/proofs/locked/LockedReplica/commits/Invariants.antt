use Rattle.std.proofs.Common.{◌≡◌, ◌≤◌}
use Rattle.log_model.specs.Entries.{items_of}
use Rattle.replica.specs.Replica.{entries_of}
use Rattle.locked_replica.proofs.CommitLemmas.{commits_before}
use Rattle.locked_replica.proofs.locked.LockedReplica.commits.Given as goal

abbrev pub invariant-loop-before : goal.invariant-loop-before
invariant-loop-before g l = (l.commits ≤ l.before) × (l.commits ≡ commits_before g.J.LogSetting.setting (items_of (entries_of l.self.entries)) l.before)
