use Rattle.std.proofs.Common.{◌<◌, List, [], length, get_or, subst}
use Rattle.std.specs.Option.{option_copied}
use Rattle.row_chain.specs.Slots.{Slot, IsPushed}
use Rattle.row_chain.proofs.EditLemmas.{nil}
use Rattle.key_table.proofs.PageEditLemmas.{found_at, pages_changed}
use Rattle.key_table.proofs.ChangeLemmas.{changed_at}
use Rattle.key_table.proofs.LeastLemmas.{least_kept}
use Rattle.key_table.proofs.group_edits.push.Goals as goal

pub push_at-requires-clause-at : goal.push_at-requires-clause-at
push_at-requires-clause-at g c p =
    let f = rw c.in-Some.is at c.find-found.ensures.found in
    subst (λ (l : List (List Slot)). c.in-Some.at < length (get_or l c.in-Some.page p)) c.deref.ensures.value (f.1 p nil).0

pub returns-in-Some-clause-pages : goal.returns-in-Some-clause-pages
returns-in-Some-clause-pages g c =
    let f = rw c.in-Some.is at c.find-found.ensures.found in
    let p = c.push_at.ensures [] nil in
    pages_changed c.args.pages.now.items c.push_at.new.pages.items c.in-Some.page c.in-Some.at c.args.key (get_or (get_or c.push_at.new.pages.items c.in-Some.page []) c.in-Some.at nil) c.requires.pages
    (found_at c.args.pages.now.items c.deref.result.now c.in-Some.page c.in-Some.at c.args.key c.deref.ensures.value f) p.0.key p.1

pub returns-in-Some-clause-pushed : goal.returns-in-Some-clause-pushed
returns-in-Some-clause-pushed g c =
    let f = rw c.in-Some.is at c.find-found.ensures.found in
    let p = c.push_at.ensures [] nil in
    changed_at (IsPushed c.args.position (option_copied c.args.row)) c.args.pages.now.items c.push_at.new.pages.items c.in-Some.page c.in-Some.at c.args.key (get_or (get_or c.push_at.new.pages.items c.in-Some.page []) c.in-Some.at nil)
    (found_at c.args.pages.now.items c.deref.result.now c.in-Some.page c.in-Some.at c.args.key c.deref.ensures.value f) p.0 p.1

pub returns-in-Some-clause-least : goal.returns-in-Some-clause-least
returns-in-Some-clause-least g c =
    let p = c.push_at.ensures [] nil in
    least_kept c.args.pages.now.items c.push_at.new.pages.items c.in-Some.page c.in-Some.at (get_or (get_or c.push_at.new.pages.items c.in-Some.page []) c.in-Some.at nil) nil p.0.key p.1
