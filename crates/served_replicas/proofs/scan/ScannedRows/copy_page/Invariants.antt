use Rattle.std.proofs.Common.{◌≡◌, ◌≤◌, ◌++◌, length}
use Rattle.row_scan.specs.Left.{rows_left}
use Rattle.served_replicas.specs.Scanned.{rows_seen}
use Rattle.served_replicas.proofs.scan.ScannedRows.copy_page.Given as goal

abbrev pub invariant-loop : goal.invariant-loop
invariant-loop g l =
    (length l.self.rows.items ≤ l.most) × (l.self.seen ≡ l.fn.self.seen)
    × (l.self.rows.items ++ rows_left l.scan.left (rows_seen g.J.LogSetting.setting l.fn.self.seen) ≡ l.fn.self.rows.items ++ rows_left l.fn.scan.left (rows_seen g.J.LogSetting.setting l.fn.self.seen))
