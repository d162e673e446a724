use Rattle.std.proofs.Common.{◌≡◌, ◌≤◌, ◌++◌, length}
use Rattle.std.specs.FinMap.{entries}
use Rattle.schema.specs.Rows.{rows_in}
use Rattle.replica.specs.Replica.{AreEntriesOf, entries_of}
use Rattle.row_scan.specs.Left.{rows_left}
use Rattle.served_replicas.specs.Scanned.{rows_seen}
use Rattle.served_replicas.proofs.shared.Shared.scan.Given as goal

abbrev pub invariant-loop : goal.invariant-loop
invariant-loop g l =
    (goal.iterator-loop g).can_next l.iterator' × (goal.iterator-loop g).is_finite l.iterator'
    × (length l.scanned.rows.items ≤ l.most) × AreEntriesOf g.J.LogSetting.setting (entries_of l.scanned.seen)
    × (l.scanned.rows.items ++ rows_left l.scan.left (rows_seen g.J.LogSetting.setting l.scanned.seen) ≡ entries (rows_in l.fn.look (rows_seen g.J.LogSetting.setting l.scanned.seen)))
