use Rattle.std.proofs.Common.{◌≡◌, ◌≤◌, ◌∙◌, List, drop, length, subst, sym, ap, arith}
use Rattle.std.proofs.lemmas.List.{take_rest}
use Rattle.row_chain.specs.Slots.{Slot}
use Rattle.key_table.specs.Pages.{ArePages, IsGroupSized}
use Rattle.key_table.proofs.GroupLemmas.{sized, pages_taken, pages_dropped, least_taken, least_dropped}
use Rattle.key_table.proofs.group.Group.split.Goals as goal

enough : (ps ns : List (List Slot)) → ps ≡ ns → length ns ≡ 256 → 128 ≤ length ps
enough ps ns same full = let n = ap (λ (l : List (List Slot)). length l) same in omega (arith, n, full)

pub invariant_of-result : goal.invariant_of-result
invariant_of-result g c =
    let ps = c.self.inside.pages.items in (
      subst ArePages (sym c.in_ok-pages.ensures.tail) (pages_dropped 128 ps c.self.invariant.0),
      least_dropped 128 ps c.in_ok-pages.pages.items c.self.inside.least.items c.in_ok-least.least.items c.self.invariant.1
          (c.in_ok-least.ensures.items ∙ take_rest c.deref.result.now 128 ∙ ap (drop 128) c.deref.ensures.value) c.in_ok-pages.ensures.tail,
    )

pub invariant_of-self-2 : goal.invariant_of-self-2
invariant_of-self-2 g c =
    let ps = c.self.inside.pages.items in (
      subst ArePages (sym c.in_ok-pages.ensures.items) (pages_taken 128 ps c.self.invariant.0 (enough ps c.args.self.now c.self.view_is c.requires)),
      least_taken 128 ps c.split_off.new.self.items c.self.inside.least.items c.truncate.new.self.items c.self.invariant.1 c.truncate.ensures.items c.in_ok-pages.ensures.items,
    )

pub returns-clause-lower_size : goal.returns-clause-lower_size
returns-clause-lower_size g c =
    let ps = c.self.inside.pages.items in
    subst IsGroupSized (sym c.in_ok-pages.ensures.items) (sized _ (pages_taken 128 ps c.self.invariant.0 (enough ps c.args.self.now c.self.view_is c.requires)))

pub returns-clause-upper_size : goal.returns-clause-upper_size
returns-clause-upper_size g c = subst IsGroupSized (sym c.in_ok-pages.ensures.tail) (sized _ (pages_dropped 128 c.self.inside.pages.items c.self.invariant.0))
