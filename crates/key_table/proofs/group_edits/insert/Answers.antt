use Rattle.std.proofs.Common.{◌≡◌, ◌∙◌, ◌<◌, ℕ, List, [], length, get_or, ap, arith}
use Rattle.row_chain.specs.Slots.{Slot}
use Rattle.key_table.specs.Pages.{page_place, in_pages, least_keys}
use Rattle.key_table.proofs.PlaceLemmas.{rising_page}
use Rattle.key_table.proofs.PageEditLemmas.{into, into_place, ok_map}
use Rattle.key_table.proofs.LeastLemmas.{length-least}
use Rattle.key_table.proofs.group_edits.insert.Goals as goal

within : (ps : List (List Slot)) (ls d : List ℕ) (n : ℕ) → d ≡ ls → ls ≡ least_keys ps → n < length d → n < length ps
within ps ls d n same is lt = let m = length-least d ps (same ∙ is) in omega (arith, m)

pub insert_into-requires-clause-rising : goal.insert_into-requires-clause-rising
insert_into-requires-clause-rising g c p = rising_page c.args.pages.now.items c.place_of-page.result p c.requires.rising (within c.args.pages.now.items c.args.least.now.items c.deref.result.now c.place_of-page.result c.deref.ensures.value c.requires.least c.place_of-page.ensures.within)

pub returns-clause-done : goal.returns-clause-done
returns-clause-done g c =
    let ps = c.args.pages.now.items in let i = c.place_of-page.result in let x = c.args.entry in let new = c.insert_into.new.pages.items in
    ok_map c.insert_into.result ((p : List Slot) → new ≡ into c.args.split x ps i (get_or ps i p)) (new ≡ in_pages c.args.split x ps)
    (λ h. h [] ∙ into_place c.args.split x ps i [] (within ps c.args.least.now.items c.deref.result.now i c.deref.ensures.value c.requires.least c.place_of-page.ensures.within)
    (c.place_of-page.ensures.place 64 ps (c.deref.ensures.value ∙ c.requires.least) c.requires.filled c.requires.rising ∙ ap (λ (k : ℕ). page_place k ps) c.key.ensures)) c.insert_into.ensures.done
