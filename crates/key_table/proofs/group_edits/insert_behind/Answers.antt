use Rattle.std.proofs.Common.{◌∙◌, ◌+◌, List, [], ◌∷◌, get_or, sym, ap}
use Rattle.std.specs.Prelude.{is_ok}
use Rattle.std.specs.List.{insert}
use Rattle.std.proofs.lemmas.List.{set-get_or}
use Rattle.row_chain.specs.Slots.{Slot}
use Rattle.key_table.proofs.PageEditLemmas.{insert_after}
use Rattle.key_table.proofs.LeastLemmas.{behind_noted}
use Rattle.key_table.proofs.group_edits.insert_behind.Goals as goal

pub returns-clause-done : goal.returns-clause-done
returns-clause-done g c p =
    let ps = c.args.pages.now.items in let i = c.args.page in let lo = get_or ps i p in let hi : List Slot = c.args.entry ∷ [] in
    c.in_ok-insert.ensures.items
    ∙ ap (λ (p : List Slot). insert ps (i + 1) p) c.in_ok-added.ensures
    ∙ ap (λ (l : List (List Slot)). insert l (i + 1) hi) (sym (set-get_or ps i p))
    ∙ insert_after ps i lo hi c.requires.page

pub returns-clause-least : goal.returns-clause-least
returns-clause-least g c =
    behind_noted c.args.pages.now.items c.insert.new.self.items c.args.least.now.items c.reserve.new.self.items c.insert-noted.new.self.items c.args.page c.key-key.result c.args.entry (is_ok c.insert-noted.result)
    c.requires.page c.requires.least c.in_ok-reserve.ensures.items (returns-clause-done g c []) c.key-key.ensures c.insert-noted.ensures.items (sym c.is_ok.ensures.value ∙ c.if-prove.false)
