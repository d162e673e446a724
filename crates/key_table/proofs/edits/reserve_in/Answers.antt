use Rattle.std.proofs.Common.{◌≡◌, ◌∙◌, ◌<◌, ◌^◌, ℕ, Bool, true, false, List, [], length, get_or, set, refl, subst, sym, ap, arith}
use Rattle.std.specs.Prelude.{Option, Some, None, IsSome, is_ok, Result, Ok, Err, OnOk, OnErr}
use Rattle.std.proofs.lemmas.Bool.{false≢true}
use Rattle.std.proofs.lemmas.List.{length-set, set-get_or, get_or_default}
use Rattle.row_chain.specs.Version.{ChainState}
use Rattle.key_table.specs.Table.{Slot, IsReserved, HasRoomAt, chain_at}
use Rattle.key_table.specs.Pages.{all_slots, least_key, page_place, IsGroupSized}
use Rattle.key_table.specs.Changes.{IsChangedAt, IsAdded}
use Rattle.key_table.proofs.LeastLemmas.{length-least, least_noted}
use Rattle.row_chain.proofs.EditLemmas.{on_ok}
use Rattle.key_table.specs.Groups.{group_slots, AreGroups}
use Rattle.key_table.proofs.PartLemmas.{within, part_at, part_set, chain_group, length-group_slots}
use Rattle.key_table.proofs.SlotLemmas.{Reserved, reserved_found, reserved_added, reserved_none, length_changed, length_added}
use Rattle.key_table.proofs.SplitLemmas.{group_changed, group_added, filled_set}
use Rattle.key_table.proofs.edits.reserve_in.Goals as goal

record Kept (w k : ℕ) (granted : Bool) (gs new : List (List (List Slot))) : Type 0 where
  groups : AreGroups w new
  slots : Reserved w k granted (all_slots (group_slots gs)) (all_slots (group_slots new))

when_ok : {A E : Type 0} (r : Result A E) (P : Type 0) → OnOk r P → is_ok r ≡ true → P
when_ok (Ok x) P h e = h
when_ok (Err x) P h e = absurd (false≢true e)

when_err : {A E : Type 0} (r : Result A E) (P : Type 0) → OnErr r P → is_ok r ≡ false → P
when_err (Ok x) P h e = absurd (false≢true (sym e))
when_err (Err x) P h e = h

kept : (w k i : ℕ) (granted : Bool) (gs new : List (List (List Slot))) (g : List (List Slot)) → AreGroups w gs → i < length gs → i ≡ page_place k (group_slots gs) → k < 2 ^ 64 → new ≡ set gs i g → IsGroupSized g
    → (IsSome (chain_at (all_slots (get_or gs i [])) k) → IsChangedAt (IsReserved granted) k (all_slots (get_or gs i [])) (all_slots g))
    → (granted ≡ true → chain_at (all_slots (get_or gs i [])) k ≡ None → IsAdded w k (all_slots (get_or gs i [])) (all_slots g))
    → (granted ≡ false → chain_at (all_slots (get_or gs i [])) k ≡ None → all_slots g ≡ all_slots (get_or gs i []))
    → Kept w k granted gs new
kept w k i granted gs new g groups lt place word is size found added none =
    let es = all_slots (group_slots gs) in
    let olds = all_slots (get_or gs i []) in
    let same : chain_at olds k ≡ chain_at es k = chain_group k i gs (get_or gs i []) groups.filled groups.rising place lt (get_or_default gs i [] (get_or gs i []) lt) in
    let count : length new ≡ length gs = ap (λ (l : List (List (List Slot))). length l) is ∙ length-set gs i g in
    elim (chain_at olds k) as (λ (o : Option ChainState). chain_at olds k ≡ o → Kept w k granted gs new) [
      | Some chain ↦ λ e.
          let change = found (subst IsSome (sym e) refl) in
          let slots = reserved_found w k granted es (all_slots (group_slots new)) groups.rising groups.wide (group_changed (IsReserved granted) k gs new i g groups.filled groups.rising lt place is change) in
          let n = length_changed (IsReserved granted) k olds (all_slots g) change in
          record {
            groups = record { rising = slots.rising; wide = slots.wide; filled = filled_set gs new i g groups.filled lt is (omega (arith, n)) size.most; few = omega (arith, count, groups.few) };
            slots = slots;
          }
      | None ↦ λ e. elim granted as (λ (b : Bool). granted ≡ b → Kept w k granted gs new) [
        | true ↦ λ f.
            let more = added f e in
            let slots = reserved_added w k granted es (all_slots (group_slots new)) groups.rising groups.wide word (sym same ∙ e) (group_added w k gs new i g groups.filled groups.rising lt place is more) in
            let n = length_added w k olds (all_slots g) more in
            record {
              groups = record { rising = slots.rising; wide = slots.wide; filled = filled_set gs new i g groups.filled lt is (omega (arith, n)) size.most; few = omega (arith, count, groups.few) };
              slots = slots;
            }
        | false ↦ λ f.
            let equal = none f e in
            let all : all_slots (group_slots new) ≡ es =
            ap all_slots (ap group_slots is ∙ part_set gs i g ∙ ap (set (group_slots gs) i) (equal ∙ sym (part_at gs i)) ∙ set-get_or (group_slots gs) i []) in
            let slots = reserved_none w k granted es (all_slots (group_slots new)) groups.rising groups.wide f all in
            let n = ap (λ (l : List Slot). length l) equal in
            record {
              groups = record { rising = slots.rising; wide = slots.wide; filled = filled_set gs new i g groups.filled lt is (omega (arith, n)) size.most; few = omega (arith, count, groups.few) };
              slots = slots;
            }
      ] refl
    ] refl

pub set_least-requires-clause-at : goal.set_least-requires-clause-at
set_least-requires-clause-at g c =
    let x = get_or c.reserve_at-reserved.new.groups.items c.args.at [] in
    let n = ap (λ (l : List (List (List Slot))). length l) (c.deref.ensures.value ∙ c.reserve_at-reserved.ensures.others []) ∙ length-set c.args.groups.now.items c.args.at x in
    omega (arith, n, c.requires.at)

pub set_least-requires-clause-len : goal.set_least-requires-clause-len
set_least-requires-clause-len g c =
    let x = get_or c.reserve_at-reserved.new.groups.items c.args.at [] in
    let n = ap (λ (l : List (List (List Slot))). length l) (c.deref.ensures.value ∙ c.reserve_at-reserved.ensures.others []) ∙ length-set c.args.groups.now.items c.args.at x in
    length-least c.args.least.now.items (group_slots c.args.groups.now.items) c.requires.least ∙ length-group_slots c.args.groups.now.items ∙ sym n

pub returns-clause-least : goal.returns-clause-least
returns-clause-least g c =
    let gs = c.args.groups.now.items in let i = c.args.at in let new = c.reserve_at-reserved.new.groups.items in let x = get_or new i [] in let ls = c.args.least.now.items in
    least_noted (group_slots gs) (group_slots new) ls c.set_least.new.least.items i (all_slots x) [] (within gs i c.requires.at) c.requires.least (ap group_slots (c.reserve_at-reserved.ensures.others []) ∙ part_set gs i x)
    (c.set_least.ensures [] ∙ ap (λ (l : List (List (List Slot))). set ls i (least_key (all_slots (get_or l i [])))) c.deref.ensures.value ∙ ap (λ (p : List Slot). set ls i (least_key p)) (sym (part_at new i)))

pub returns-clause-groups : goal.returns-clause-groups
returns-clause-groups g c =
    let r = c.reserve_at-reserved in
    let gs = c.args.groups.now.items in let i = c.args.at in let new = r.new.groups.items in
    (kept c.args.width c.args.key i (is_ok r.result) gs new (get_or new i []) c.requires.groups c.requires.at c.requires.place (omega arith) (r.ensures.others []) (r.ensures.size []) (r.ensures.found [])
    (λ e. when_ok r.result ((d : List (List Slot)) → chain_at (all_slots (get_or gs i d)) c.args.key ≡ None → IsAdded c.args.width c.args.key (all_slots (get_or gs i d)) (all_slots (get_or new i d))) r.ensures.added e [])
    (λ e. when_err r.result ((d : List (List Slot)) → chain_at (all_slots (get_or gs i d)) c.args.key ≡ None → all_slots (get_or new i d) ≡ all_slots (get_or gs i d)) r.ensures.none e [])).groups

pub returns-clause-versions : goal.returns-clause-versions
returns-clause-versions g c =
    let r = c.reserve_at-reserved in
    let gs = c.args.groups.now.items in let i = c.args.at in let new = r.new.groups.items in
    (kept c.args.width c.args.key i (is_ok r.result) gs new (get_or new i []) c.requires.groups c.requires.at c.requires.place (omega arith) (r.ensures.others []) (r.ensures.size []) (r.ensures.found [])
    (λ e. when_ok r.result ((d : List (List Slot)) → chain_at (all_slots (get_or gs i d)) c.args.key ≡ None → IsAdded c.args.width c.args.key (all_slots (get_or gs i d)) (all_slots (get_or new i d))) r.ensures.added e [])
    (λ e. when_err r.result ((d : List (List Slot)) → chain_at (all_slots (get_or gs i d)) c.args.key ≡ None → all_slots (get_or new i d) ≡ all_slots (get_or gs i d)) r.ensures.none e [])).slots.versions

pub returns-clause-more : goal.returns-clause-more
returns-clause-more g c =
    let r = c.reserve_at-reserved in
    let gs = c.args.groups.now.items in let i = c.args.at in let new = r.new.groups.items in
    (kept c.args.width c.args.key i (is_ok r.result) gs new (get_or new i []) c.requires.groups c.requires.at c.requires.place (omega arith) (r.ensures.others []) (r.ensures.size []) (r.ensures.found [])
    (λ e. when_ok r.result ((d : List (List Slot)) → chain_at (all_slots (get_or gs i d)) c.args.key ≡ None → IsAdded c.args.width c.args.key (all_slots (get_or gs i d)) (all_slots (get_or new i d))) r.ensures.added e [])
    (λ e. when_err r.result ((d : List (List Slot)) → chain_at (all_slots (get_or gs i d)) c.args.key ≡ None → all_slots (get_or new i d) ≡ all_slots (get_or gs i d)) r.ensures.none e [])).slots.more

pub returns-clause-room : goal.returns-clause-room
returns-clause-room g c =
    on_ok c.reserve_at-reserved.result (HasRoomAt (all_slots (group_slots c.reserve_at-reserved.new.groups.items)) c.args.key) (
    let r = c.reserve_at-reserved in
    let gs = c.args.groups.now.items in let i = c.args.at in let new = r.new.groups.items in
    (kept c.args.width c.args.key i (is_ok r.result) gs new (get_or new i []) c.requires.groups c.requires.at c.requires.place (omega arith) (r.ensures.others []) (r.ensures.size []) (r.ensures.found [])
    (λ e. when_ok r.result ((d : List (List Slot)) → chain_at (all_slots (get_or gs i d)) c.args.key ≡ None → IsAdded c.args.width c.args.key (all_slots (get_or gs i d)) (all_slots (get_or new i d))) r.ensures.added e [])
    (λ e. when_err r.result ((d : List (List Slot)) → chain_at (all_slots (get_or gs i d)) c.args.key ≡ None → all_slots (get_or new i d) ≡ all_slots (get_or gs i d)) r.ensures.none e [])).slots.room)
