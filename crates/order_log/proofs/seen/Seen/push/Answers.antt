use Rattle.std.proofs.Common.{◌≡◌, ℕ, length, arith, sym, ap, length-append}
use Rattle.std.proofs.lemmas.List.{length-map}
use Rattle.log_entry.specs.declared.entry.Entry.{Entry as LogEntry}
use Rattle.order_log.proofs.Places.{cells_more}
use Rattle.order_log.proofs.seen.Seen.push.Goals as goal

pub invariant_of-self : goal.invariant_of-self
invariant_of-self g c =
    let me = c.self.inside in
    let n : length me.cells.known ≡ length c.args.self.now = simp length-map at (ap length c.self.view_is) in
    let s = cells_more g.J.LogIdentity.groups (length c.args.self.now) me.groups.known me.cells.known (c.args.group.now.cell, c.args.group.now.value) (c.args.cell.now.cell, c.args.cell.now.value) c.self.invariant.2 (sym n) c.requires.group c.requires.cell in
    (rw c.push-2.ensures (omega (arith, c.self.invariant.0, length-append {A = ℕ × LogEntry g.row.A.Denot})), omega (arith, c.self.invariant.0, n, c.requires.room), rw (c.push.ensures, c.push-2.ensures) s)
