use Rattle.std.proofs.Common.{◌≡◌, ◌∙◌, ◌<◌, ◌≤◌, ◌+◌, ℕ, List, [], length, get_or, subst, sym, ap, arith}
use Rattle.std.specs.Prelude.{None, is_ok, Result, Ok, Err, OnOk, OnErr}
use Rattle.row_chain.specs.Version.{HasRoom}
use Rattle.row_chain.specs.Slots.{Slot, AreRising, below, chain_at, IsReserved, with_slot}
use Rattle.key_table.specs.declared.split.Split.{Split}
use Rattle.key_table.specs.Pages.{all_slots, in_pages, AreFilled, ArePages}
use Rattle.key_table.specs.Changes.{IsAdded}
use Rattle.row_chain.proofs.EditLemmas.{nil, is_inserted, some-none}
use Rattle.key_table.proofs.PagesLemmas.{all-in_pages}
use Rattle.key_table.proofs.PageEditLemmas.{IsFound, found_at, pages_changed, ok_map, either_way}
use Rattle.key_table.proofs.ChangeLemmas.{changed_at}
use Rattle.key_table.proofs.LeastLemmas.{least_kept}
use Rattle.key_table.proofs.group_edits.reserve.Goals as goal

record Added (width k : ℕ) (ps new : List (List Slot)) : Type 0 where
  pages : ArePages new
  added : IsAdded width k (all_slots ps) (all_slots new)

made : (split : Split) (width : ℕ) (ps new : List (List Slot)) (k : ℕ) (x : Slot) → ArePages ps → chain_at (all_slots ps) k ≡ None → x.key ≡ k → x.chain.versions ≡ [] → x.chain.width ≡ width → HasRoom x.chain → AreFilled 64 new → length new ≤ length ps + 1 → length ps < 256 → new ≡ in_pages split x ps → Added width k ps new
made split width ps new k x pages none key empty wide room filled few small is =
    let es = all_slots ps in
    let flat : all_slots new ≡ with_slot x es = ap all_slots is ∙ all-in_pages 64 split x ps pages.filled pages.rising in
    let change = is_inserted es (all_slots new) (below x.key es) k x pages.rising none (ap (λ (j : ℕ). below j es) key) key flat in
    record {
      pages = record { rising = change.rising; filled = filled; few = omega arith };
      added = record { slot = x; new_key = key; versions = empty; row_width = wide; room = room; others = flat };
    }

pages_same : (ps new : List (List Slot)) → ArePages ps → AreFilled 64 new → length new ≤ length ps + 1 → length ps < 256 → all_slots new ≡ all_slots ps → ArePages new
pages_same ps new pages filled few small same = record { rising = subst AreRising (sym same) pages.rising; filled = filled; few = omega arith }

pub reserve_at-requires-clause-at : goal.reserve_at-requires-clause-at
reserve_at-requires-clause-at g c p = subst (λ (l : List (List Slot)). c.in-Some.at < length (get_or l c.in-Some.page p)) c.deref-2.ensures.value (c.in-Some.ensures.found.1 p nil).0

pub returns-in-Some-clause-pages : goal.returns-in-Some-clause-pages
returns-in-Some-clause-pages g c =
    let p = c.reserve_at.ensures [] nil in
    pages_changed c.args.pages.now.items c.reserve_at.new.pages.items c.in-Some.page c.in-Some.at c.args.key (get_or (get_or c.reserve_at.new.pages.items c.in-Some.page []) c.in-Some.at nil) c.requires.pages
    (found_at c.args.pages.now.items c.deref-2.result.now c.in-Some.page c.in-Some.at c.args.key c.deref-2.ensures.value c.in-Some.ensures.found) p.0.key p.1

pub returns-in-Some-clause-least : goal.returns-in-Some-clause-least
returns-in-Some-clause-least g c =
    let p = c.reserve_at.ensures [] nil in
    c.requires.least ∙ sym (least_kept c.args.pages.now.items c.reserve_at.new.pages.items c.in-Some.page c.in-Some.at (get_or (get_or c.reserve_at.new.pages.items c.in-Some.page []) c.in-Some.at nil) nil p.0.key p.1)

pub returns-in-Some-clause-found : goal.returns-in-Some-clause-found
returns-in-Some-clause-found g c _ =
    let p = c.reserve_at.ensures [] nil in
    changed_at (IsReserved (is_ok c.reserve_at.result)) c.args.pages.now.items c.reserve_at.new.pages.items c.in-Some.page c.in-Some.at c.args.key (get_or (get_or c.reserve_at.new.pages.items c.in-Some.page []) c.in-Some.at nil)
    (found_at c.args.pages.now.items c.deref-2.result.now c.in-Some.page c.in-Some.at c.args.key c.deref-2.ensures.value c.in-Some.ensures.found) p.0 p.1

none_there : (ps : List (List Slot)) (i j k : ℕ) (X : Type 0) → IsFound ps i j k → chain_at (all_slots ps) k ≡ None → X
none_there ps i j k X f none = absurd (some-none (get_or (get_or ps i []) j nil).chain (sym f.chain ∙ none))

granted : {A E : Type 0} (r : Result A E) (P : Type 0) → P → OnOk r P
granted (Ok x) P h = h
granted (Err e) P h = tt

refused : {A E : Type 0} (r : Result A E) (P : Type 0) → P → OnErr r P
refused (Ok x) P h = tt
refused (Err e) P h = h

pub returns-in-Some-clause-inserted : goal.returns-in-Some-clause-inserted
returns-in-Some-clause-inserted g c =
    let f = found_at c.args.pages.now.items c.deref-2.result.now c.in-Some.page c.in-Some.at c.args.key c.deref-2.ensures.value c.in-Some.ensures.found in
    granted c.reserve_at.result _ (none_there c.args.pages.now.items c.in-Some.page c.in-Some.at c.args.key _ f)

pub returns-in-Some-clause-added : goal.returns-in-Some-clause-added
returns-in-Some-clause-added g c =
    let f = found_at c.args.pages.now.items c.deref-2.result.now c.in-Some.page c.in-Some.at c.args.key c.deref-2.ensures.value c.in-Some.ensures.found in
    granted c.reserve_at.result _ (none_there c.args.pages.now.items c.in-Some.page c.in-Some.at c.args.key _ f)

pub returns-in-Some-clause-none : goal.returns-in-Some-clause-none
returns-in-Some-clause-none g c =
    let f = found_at c.args.pages.now.items c.deref-2.result.now c.in-Some.page c.in-Some.at c.args.key c.deref-2.ensures.value c.in-Some.ensures.found in
    refused c.reserve_at.result _ (none_there c.args.pages.now.items c.in-Some.page c.in-Some.at c.args.key _ f)

absent : (ps d : List (List Slot)) (k : ℕ) → d ≡ ps → chain_at (all_slots d) k ≡ None → chain_at (all_slots ps) k ≡ None
absent ps d k same none = subst (λ (l : List (List Slot)). chain_at (all_slots l) k ≡ None) same none

pub returns-in_ok-reserve-in-None-clause-pages : goal.returns-in_ok-reserve-in-None-clause-pages
returns-in_ok-reserve-in-None-clause-pages g c =
    let ps = c.args.pages.now.items in let new = c.insert.new.pages.items in let x = c.reserve.new.self in let r = c.in_ok-reserve-in-None.ensures in
    let none = absent ps c.deref-2.result.now c.args.key c.deref-2.ensures.value c.in-None.ensures.absent in
    either_way c.insert.result (new ≡ in_pages c.args.split x ps) (all_slots new ≡ all_slots ps) (ArePages new)
    (λ h. (made c.args.split c.args.width ps new c.args.key x c.requires.pages none (r.key ∙ c.new-entry.ensures.key) (r.versions ∙ c.new-entry.ensures.versions) (r.width ∙ c.new-entry.ensures.width) r.room c.insert.ensures.filled c.insert.ensures.few c.requires.room h).pages)
    (pages_same ps new c.requires.pages c.insert.ensures.filled c.insert.ensures.few c.requires.room) c.insert.ensures.done c.insert.ensures.none

pub returns-in_ok-reserve-in-None-clause-added : goal.returns-in_ok-reserve-in-None-clause-added
returns-in_ok-reserve-in-None-clause-added g c =
    let ps = c.args.pages.now.items in let new = c.insert.new.pages.items in let x = c.reserve.new.self in let r = c.in_ok-reserve-in-None.ensures in
    ok_map c.insert.result (new ≡ in_pages c.args.split x ps) (chain_at (all_slots ps) c.args.key ≡ None → IsAdded c.args.width c.args.key (all_slots ps) (all_slots new))
    (λ h none. (made c.args.split c.args.width ps new c.args.key x c.requires.pages none (r.key ∙ c.new-entry.ensures.key) (r.versions ∙ c.new-entry.ensures.versions) (r.width ∙ c.new-entry.ensures.width) r.room c.insert.ensures.filled c.insert.ensures.few c.requires.room h).added) c.insert.ensures.done
