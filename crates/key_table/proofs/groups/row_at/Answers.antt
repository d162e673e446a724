use Rattle.std.proofs.Common.{◌∙◌, ap, arith}
use Rattle.std.specs.Prelude.{Option}
use Rattle.row_chain.specs.Version.{ChainState, row_up_to}
use Rattle.key_table.specs.Table.{versions_in}
use Rattle.key_table.specs.Groups.{group_slots}
use Rattle.key_table.proofs.LeastLemmas.{length-least}
use Rattle.key_table.proofs.PartLemmas.{length-group_slots, chain_group}
use Rattle.key_table.proofs.groups.row_at.Goals as goal

pub returns : goal.returns
returns g c =
    let gs = c.args.groups.now in
    c.row_at.ensures
    ∙ ap (λ (o : Option ChainState). row_up_to c.args.position (versions_in o)) (chain_group c.args.key c.place_of.result gs c.index-groups-place_of.result c.requires.filled c.requires.rising
    (c.place_of.ensures.place 16384 (group_slots gs) c.requires.least c.requires.filled c.requires.rising)
    (omega (arith, c.place_of.ensures.within, length-least c.args.least.now (group_slots gs) c.requires.least, length-group_slots gs)) c.index-groups-place_of.is)
