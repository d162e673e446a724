use Rattle.std.proofs.Common.{◌<◌, ◌+◌, List, [], length, get_or, sym, subst, ◌∙◌, arith}
use Rattle.std.specs.Prelude.{is_ok}
use Rattle.row_chain.specs.Slots.{Slot}
use Rattle.key_table.proofs.PageEditLemmas.{length-split}
use Rattle.key_table.proofs.LeastLemmas.{split_noted}
use Rattle.key_table.proofs.group_edits.split_at.Goals as goal

pub least_of-first-requires : goal.least_of-first-requires
least_of-first-requires g c =
    let ps = c.args.pages.now.items in let i = c.args.page in
    subst (λ (l : List (List Slot)). i + 1 < length l) (sym (c.deref.ensures.value ∙ c.in_ok-split_page.ensures.done [])) (omega (arith, c.requires.page, length-split ps i (get_or ps i []) c.requires.page))

pub returns-clause-least : goal.returns-clause-least
returns-clause-least g c =
    split_noted c.args.pages.now.items c.split_page.new.pages.items c.deref.result.now c.args.least.now.items c.reserve.new.self.items c.insert-noted.new.self.items c.args.page c.least_of-first.result (is_ok c.insert-noted.result)
    c.requires.page c.requires.least c.in_ok-reserve.ensures.items (c.in_ok-split_page.ensures.done []) c.deref.ensures.value (c.least_of-first.ensures []) c.insert-noted.ensures.items (sym c.is_ok.ensures.value ∙ c.if-prove.false)
