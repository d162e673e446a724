use Rattle.std.proofs.lemmas.List.{length-map}
use Rattle.order_log.proofs.Places.{cells_agree}
use Rattle.order_log.proofs.seen.Seen.agrees.Goals as goal

pub returns : goal.returns
returns g c =
    let mine = c.self.inside in
    let others = c.other.inside in
    rw (← c.self.view_is, ← c.other.view_is) (λ short. cells_agree g.J.LogIdentity.groups 0 mine.groups.known others.groups.known mine.cells.known others.cells.known c.self.invariant.2 c.other.invariant.2 c.agrees.ensures c.agrees-2.ensures (simp length-map at short))
