use Rattle.std.proofs.Common.{sym, ap, ◌∙◌, arith}
use Rattle.dsm_model.specs.World.{numbered}
use Rattle.replica.specs.Replica.{entries_of}
use Rattle.dsm_world.specs.System.{SystemWorld}
use Rattle.dsm_world.proofs.Numbered.{numbered_at}
use Rattle.dsm_world.proofs.ReplicaLemmas.{get_is, get_in_code}
use Rattle.dsm_world.proofs.world.World.entry.Goals as goal

pub returns : goal.returns
returns g c =
    let items = c.self.inside.entries.items in
    let at = c.in_ok-at.at in
    let place = c.in_ok-at.ensures.there in
    let count = c.len.ensures in
    let lt = place.1 in
    sym (ap (λ (s : SystemWorld). numbered s.entries c.args.position) (sym c.self.view_is)
    ∙ numbered_at (entries_of items) c.args.position at place.0
    ∙ get_in_code items at c.index.result.now (get_is items at c.index.result.now (omega arith) c.index.ensures))
