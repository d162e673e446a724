use Rattle.std.proofs.Common.{◌∙◌, ap, sym}
use Rattle.key_table.specs.Table.{Table, versions_in, versions_at}
use Rattle.key_table.specs.Pages.{all_slots}
use Rattle.key_table.specs.Groups.{group_slots}
use Rattle.row_chain.proofs.EditLemmas.{none_past}
use Rattle.key_table.proofs.table.KeyTable.first.Goals as goal

pub returns-clause-words : goal.returns-clause-words
returns-clause-words g c q past =
    ap (λ (t : Table). versions_at t.slots q) (sym c.self.view_is)
    ∙ ap versions_in (none_past c.self.inside.width q (all_slots (group_slots c.self.inside.groups.items)) c.self.invariant.0.wide past)
