use Rattle.std.proofs.Common.{◌≡◌, ◌∙◌, ◌<◌, ◌≤◌, ℕ, List, [], length, get_or, subst, sym, ap, arith}
use Rattle.key_table.specs.Table.{Slot, AreRising}
use Rattle.key_table.specs.Pages.{least_keys}
use Rattle.key_table.proofs.LeastLemmas.{length-least}
use Rattle.key_table.specs.Groups.{group_slots}
use Rattle.key_table.proofs.PartLemmas.{length-group_slots}
use Rattle.key_table.proofs.SplitLemmas.{split_length, split_slots, split_room}
use Rattle.key_table.proofs.edits.make_place.Goals as goal

in_range : (ls d : List ℕ) (gs : List (List (List Slot))) (i : ℕ) → d ≡ ls → ls ≡ least_keys (group_slots gs) → i < length d → i < length gs
in_range ls d gs i same is lt = let n = length-least d (group_slots gs) (same ∙ is) in let m = length-group_slots gs in omega (arith, n, m, lt)

full : (gs d : List (List (List Slot))) (i n : ℕ) → d ≡ gs → n ≡ length (get_or d i []) → 256 ≤ n → n ≤ 256 → length (get_or gs i []) ≡ 256
full gs d i n same is low high = let e = ap (λ (l : List (List (List Slot))). length (get_or l i [])) same in omega (arith, e, is, low, high)

pub place_of-requires : goal.place_of-requires
place_of-requires g c =
    let gs = c.args.groups.now.items in let i = c.place_of-at.result in let new = c.split_at.new.groups.items in
    let lt = in_range c.args.least.now.items c.deref.result.now gs i c.deref.ensures.value c.requires.least c.place_of-at.ensures.within in
    let n = split_length gs new i lt (c.in_ok-split_at.ensures.done []) in
    let m = length-least c.deref-3.result.now (group_slots new) (c.deref-3.ensures.value ∙ c.in_ok-split_at.ensures.least) in
    let l = length-group_slots new in
    omega (arith, n, m, l)

pub returns-clause-slots : goal.returns-clause-slots
returns-clause-slots g c =
    let gs = c.args.groups.now.items in let i = c.place_of-at.result in
    split_slots gs c.split_at.new.groups.items i (in_range c.args.least.now.items c.deref.result.now gs i c.deref.ensures.value c.requires.least c.place_of-at.ensures.within) (c.in_ok-split_at.ensures.done [])

pub returns-clause-few : goal.returns-clause-few
returns-clause-few g c =
    let gs = c.args.groups.now.items in let i = c.place_of-at.result in
    let n = split_length gs c.split_at.new.groups.items i (in_range c.args.least.now.items c.deref.result.now gs i c.deref.ensures.value c.requires.least c.place_of-at.ensures.within) (c.in_ok-split_at.ensures.done []) in
    omega (arith, n)

pub returns-clause-place : goal.returns-clause-place
returns-clause-place g c =
    let gs = c.args.groups.now.items in let i = c.place_of-at.result in let new = c.split_at.new.groups.items in
    let lt = in_range c.args.least.now.items c.deref.result.now gs i c.deref.ensures.value c.requires.least c.place_of-at.ensures.within in
    c.place_of.ensures.place 16384 (group_slots new) (c.deref-3.ensures.value ∙ c.in_ok-split_at.ensures.least) c.in_ok-split_at.ensures.filled
    (subst AreRising (sym (split_slots gs new i lt (c.in_ok-split_at.ensures.done []))) c.requires.rising)

pub returns-clause-room : goal.returns-clause-room
returns-clause-room g c d =
    let gs = c.args.groups.now.items in let i = c.place_of-at.result in let new = c.split_at.new.groups.items in
    let lt = in_range c.args.least.now.items c.deref.result.now gs i c.deref.ensures.value c.requires.least c.place_of-at.ensures.within in
    split_room c.args.key gs new i c.place_of.result d lt (c.place_of-at.ensures.place 16384 (group_slots gs) (c.deref.ensures.value ∙ c.requires.least) c.requires.filled c.requires.rising)
    (full gs c.deref-2.result.now i c.pages_at.result c.deref-2.ensures.value (c.pages_at.ensures.pages []) c.if-pages_at-lt-GROUP_PAGES.false c.pages_at.ensures.most)
    (c.in_ok-split_at.ensures.lower_size []) (c.in_ok-split_at.ensures.done [])
    (c.place_of.ensures.place 16384 (group_slots new) (c.deref-3.ensures.value ∙ c.in_ok-split_at.ensures.least) c.in_ok-split_at.ensures.filled
    (subst AreRising (sym (split_slots gs new i lt (c.in_ok-split_at.ensures.done []))) c.requires.rising))
