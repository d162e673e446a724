use Rattle.std.proofs.Common.{◌≡◌, ◌∙◌, ◌≤◌, ◌<◌, ◌+◌, ℕ, Bool, true, false, List, [], ◌∷◌, length, get_or, set, subst, sym, ap, arith}
use Rattle.row_chain.specs.Slots.{Slot, AreRising}
use Rattle.key_table.specs.declared.split.Split.{Split}
use Rattle.key_table.specs.Pages.{all_slots, with_slot, goes_behind, AreFilled}
use Rattle.key_table.proofs.PlaceLemmas.{filled_page}
use Rattle.key_table.proofs.PageEditLemmas.{into, filled_into, few_into, small_into, two_into, halved, halves, filled_halved, length_halved, all_split, filled_split, length-split, lower, upper, rising_lower, rising_upper, half_set, full_into, ok_map, err_map, either_way}
use Rattle.key_table.proofs.group_edits.insert_into.Goals as goal

size : (ps d : List (List Slot)) (i n : ℕ) (p : List Slot) → d ≡ ps → n ≡ length (get_or d i p) → n ≡ length (get_or ps i p)
size ps d i n p same is = is ∙ ap (λ (l : List (List Slot)). length (get_or l i p)) same

full : (ps d : List (List Slot)) (i n : ℕ) (p : List Slot) → AreFilled 64 ps → i < length ps → d ≡ ps → n ≡ length (get_or d i p) → 64 ≤ n → length (get_or ps i p) ≡ 64
full ps d i n p filled lt same is ge =
    let s : n ≡ length (get_or ps i p) = size ps d i n p same is in
    let most : length (get_or ps i p) ≤ 64 = (filled_page 64 ps i p filled lt).1 in
    omega arith

small : (ps d : List (List Slot)) (i n : ℕ) (p : List Slot) → d ≡ ps → n ≡ length (get_or d i p) → n < 64 → length (get_or ps i p) < 64
small ps d i n p same is lt = let s : n ≡ length (get_or ps i p) = size ps d i n p same is in omega arith

which : (split : Split) (x : Slot) (ps d : List (List Slot)) (i : ℕ) (p : List Slot) (t b : Bool) → d ≡ ps → t ≡ goes_behind split x (get_or d i p) → t ≡ b → goes_behind split x (get_or ps i p) ≡ b
which split x ps d i p t b same is e = sym (is ∙ ap (λ (l : List (List Slot)). goes_behind split x (get_or l i p)) same) ∙ e

few_same : (new ps : List (List Slot)) → new ≡ ps → length new ≤ length ps + 1
few_same new ps is = subst (λ (l : List (List Slot)). length l ≤ length ps + 1) (sym is) (omega arith)

pub returns-then-keys-lt-PAGE_KEYS-clause-done : goal.returns-then-keys-lt-PAGE_KEYS-clause-done
returns-then-keys-lt-PAGE_KEYS-clause-done g c =
    let ps = c.args.pages.now.items in let i = c.args.page in let x = c.args.entry in let new = c.insert_at.new.pages.items in
    ok_map c.insert_at.result ((p : List Slot) → new ≡ set ps i (with_slot x (get_or ps i p))) ((p : List Slot) → new ≡ into c.args.split x ps i (get_or ps i p))
    (λ h p. h p ∙ small_into c.args.split x ps i p c.requires.page (small ps c.deref.result.now i c.keys.result p c.deref.ensures.value (c.keys.ensures p) c.if-keys-lt-PAGE_KEYS.true)) c.insert_at.ensures.done

pub returns-then-keys-lt-PAGE_KEYS-clause-filled : goal.returns-then-keys-lt-PAGE_KEYS-clause-filled
returns-then-keys-lt-PAGE_KEYS-clause-filled g c =
    let ps = c.args.pages.now.items in let i = c.args.page in let x = c.args.entry in let new = c.insert_at.new.pages.items in
    either_way c.insert_at.result ((p : List Slot) → new ≡ set ps i (with_slot x (get_or ps i p))) (new ≡ ps) (AreFilled 64 new)
    (λ h. subst (AreFilled 64) (sym (h [] ∙ small_into c.args.split x ps i [] c.requires.page (small ps c.deref.result.now i c.keys.result [] c.deref.ensures.value (c.keys.ensures []) c.if-keys-lt-PAGE_KEYS.true))) (filled_into c.args.split x ps i [] c.requires.filled c.requires.page))
    (λ h. subst (AreFilled 64) (sym h) c.requires.filled) c.insert_at.ensures.done c.insert_at.ensures.none

pub returns-then-keys-lt-PAGE_KEYS-clause-few : goal.returns-then-keys-lt-PAGE_KEYS-clause-few
returns-then-keys-lt-PAGE_KEYS-clause-few g c =
    let ps = c.args.pages.now.items in let i = c.args.page in let x = c.args.entry in let new = c.insert_at.new.pages.items in
    either_way c.insert_at.result ((p : List Slot) → new ≡ set ps i (with_slot x (get_or ps i p))) (new ≡ ps) (length new ≤ length ps + 1)
    (λ h. subst (λ (l : List (List Slot)). length l ≤ length ps + 1) (sym (h [] ∙ small_into c.args.split x ps i [] c.requires.page (small ps c.deref.result.now i c.keys.result [] c.deref.ensures.value (c.keys.ensures []) c.if-keys-lt-PAGE_KEYS.true))) (few_into c.args.split x ps i (get_or ps i []) c.requires.page))
    (few_same new ps) c.insert_at.ensures.done c.insert_at.ensures.none

pub goes_behind-requires-clause-page : goal.goes_behind-requires-clause-page
goes_behind-requires-clause-page g c = subst (λ (l : List (List Slot)). c.args.page < length l) (sym c.deref-2.ensures.value) c.requires.page

pub goes_behind-requires-clause-rising : goal.goes_behind-requires-clause-rising
goes_behind-requires-clause-rising g c p = subst (λ (l : List (List Slot)). AreRising (get_or l c.args.page p)) (sym c.deref-2.ensures.value) (c.requires.rising p)

behind : (split : Split) (x : Slot) (ps new : List (List Slot)) (i : ℕ) (p : List Slot) → length (get_or ps i p) ≡ 64 → goes_behind split x (get_or ps i p) ≡ true → new ≡ halved ps i (get_or ps i p) (x ∷ []) → new ≡ into split x ps i (get_or ps i p)
behind split x ps new i p all is done = done ∙ two_into split x ps i (get_or ps i p) true all is

pub returns-then-goes_behind-clause-done : goal.returns-then-goes_behind-clause-done
returns-then-goes_behind-clause-done g c =
    let ps = c.args.pages.now.items in let i = c.args.page in let x = c.args.entry in let new = c.insert_behind.new.pages.items in
    ok_map c.insert_behind.result ((p : List Slot) → new ≡ halved ps i (get_or ps i p) (x ∷ [])) ((p : List Slot) → new ≡ into c.args.split x ps i (get_or ps i p))
    (λ h p. behind c.args.split x ps new i p (full ps c.deref.result.now i c.keys.result p c.requires.filled c.requires.page c.deref.ensures.value (c.keys.ensures p) c.if-keys-lt-PAGE_KEYS.false) (which c.args.split x ps c.deref-2.result.now i p c.goes_behind.result true c.deref-2.ensures.value (c.goes_behind.ensures p) c.if-goes_behind.true) (h p)) c.insert_behind.ensures.done

pub returns-then-goes_behind-clause-none : goal.returns-then-goes_behind-clause-none
returns-then-goes_behind-clause-none g c =
    err_map c.insert_behind.result (c.insert_behind.new.pages.items ≡ c.args.pages.now.items) (all_slots c.insert_behind.new.pages.items ≡ all_slots c.args.pages.now.items) (λ h. ap all_slots h) c.insert_behind.ensures.none

pub returns-then-goes_behind-clause-filled : goal.returns-then-goes_behind-clause-filled
returns-then-goes_behind-clause-filled g c =
    let ps = c.args.pages.now.items in let i = c.args.page in let x = c.args.entry in let new = c.insert_behind.new.pages.items in
    let page = filled_page 64 ps i [] c.requires.filled c.requires.page in
    either_way c.insert_behind.result ((p : List Slot) → new ≡ halved ps i (get_or ps i p) (x ∷ [])) (new ≡ ps) (AreFilled 64 new)
    (λ h. subst (AreFilled 64) (sym (h [])) (filled_halved 64 ps i (get_or ps i []) (x ∷ []) c.requires.filled page (omega arith, omega arith)))
    (λ h. subst (AreFilled 64) (sym h) c.requires.filled) c.insert_behind.ensures.done c.insert_behind.ensures.none

pub returns-then-goes_behind-clause-few : goal.returns-then-goes_behind-clause-few
returns-then-goes_behind-clause-few g c =
    let ps = c.args.pages.now.items in let i = c.args.page in let x = c.args.entry in let new = c.insert_behind.new.pages.items in
    either_way c.insert_behind.result ((p : List Slot) → new ≡ halved ps i (get_or ps i p) (x ∷ [])) (new ≡ ps) (length new ≤ length ps + 1)
    (λ h. subst (λ (l : List (List Slot)). length l ≤ length ps + 1) (sym (h [])) (omega (arith, length_halved ps i (get_or ps i []) (x ∷ []) c.requires.page)))
    (few_same new ps) c.insert_behind.ensures.done c.insert_behind.ensures.none

pub split_at-requires-clause-full : goal.split_at-requires-clause-full
split_at-requires-clause-full g c p = full c.args.pages.now.items c.deref.result.now c.args.page c.keys.result p c.requires.filled c.requires.page c.deref.ensures.value (c.keys.ensures p) c.if-keys-lt-PAGE_KEYS.false

pub insert_half-requires-clause-page : goal.insert_half-requires-clause-page
insert_half-requires-clause-page g c =
    let ps = c.args.pages.now.items in let i = c.args.page in
    subst (λ (l : List (List Slot)). i + 1 < length l) (sym (c.in_ok-split_at.ensures.done [])) (omega (arith, c.requires.page, length-split ps i (get_or ps i []) c.requires.page))

pub insert_half-requires-clause-lower : goal.insert_half-requires-clause-lower
insert_half-requires-clause-lower g c p =
    let ps = c.args.pages.now.items in let i = c.args.page in
    subst AreRising (sym (ap (λ (l : List (List Slot)). get_or l i p) (c.in_ok-split_at.ensures.done p) ∙ lower ps i (get_or ps i p) p c.requires.page)) (rising_lower (get_or ps i p) (c.requires.rising p))

pub insert_half-requires-clause-upper : goal.insert_half-requires-clause-upper
insert_half-requires-clause-upper g c p =
    let ps = c.args.pages.now.items in let i = c.args.page in
    subst AreRising (sym (ap (λ (l : List (List Slot)). get_or l (i + 1) p) (c.in_ok-split_at.ensures.done p) ∙ upper ps i (get_or ps i p) p c.requires.page)) (rising_upper (get_or ps i p) (c.requires.rising p))

halved_into : (split : Split) (ps s new : List (List Slot)) (i : ℕ) (x : Slot) (p : List Slot) → i < length ps → length (get_or ps i p) ≡ 64 → goes_behind split x (get_or ps i p) ≡ false → s ≡ halves ps i (get_or ps i p) → new ≡ half_set x s i (get_or s i p) (get_or s (i + 1) p) → new ≡ into split x ps i (get_or ps i p)
halved_into split ps s new i x p lt all stays is done = done ∙ ap (λ (l : List (List Slot)). half_set x l i (get_or l i p) (get_or l (i + 1) p)) is ∙ full_into split x ps i (get_or ps i p) p lt all stays

pub returns-clause-done : goal.returns-clause-done
returns-clause-done g c =
    let ps = c.args.pages.now.items in let i = c.args.page in let x = c.args.entry in let s = c.split_at.new.pages.items in let new = c.insert_half.new.pages.items in
    ok_map c.insert_half.result ((p : List Slot) → new ≡ half_set x s i (get_or s i p) (get_or s (i + 1) p)) ((p : List Slot) → new ≡ into c.args.split x ps i (get_or ps i p))
    (λ h p. halved_into c.args.split ps s new i x p c.requires.page (full ps c.deref.result.now i c.keys.result p c.requires.filled c.requires.page c.deref.ensures.value (c.keys.ensures p) c.if-keys-lt-PAGE_KEYS.false) (which c.args.split x ps c.deref-2.result.now i p c.goes_behind.result false c.deref-2.ensures.value (c.goes_behind.ensures p) c.if-goes_behind.false) (c.in_ok-split_at.ensures.done p) (h p)) c.insert_half.ensures.done

pub returns-clause-none : goal.returns-clause-none
returns-clause-none g c =
    let ps = c.args.pages.now.items in let i = c.args.page in let s = c.split_at.new.pages.items in let new = c.insert_half.new.pages.items in
    err_map c.insert_half.result (new ≡ s) (all_slots new ≡ all_slots ps) (λ h. ap all_slots (h ∙ c.in_ok-split_at.ensures.done []) ∙ all_split ps i [] c.requires.page) c.insert_half.ensures.none

pub returns-clause-filled : goal.returns-clause-filled
returns-clause-filled g c =
    let ps = c.args.pages.now.items in let i = c.args.page in let x = c.args.entry in let s = c.split_at.new.pages.items in let new = c.insert_half.new.pages.items in
    let all = full ps c.deref.result.now i c.keys.result [] c.requires.filled c.requires.page c.deref.ensures.value (c.keys.ensures []) c.if-keys-lt-PAGE_KEYS.false in
    either_way c.insert_half.result ((p : List Slot) → new ≡ half_set x s i (get_or s i p) (get_or s (i + 1) p)) (new ≡ s) (AreFilled 64 new)
    (λ h. subst (AreFilled 64) (sym (halved_into c.args.split ps s new i x [] c.requires.page all (which c.args.split x ps c.deref-2.result.now i [] c.goes_behind.result false c.deref-2.ensures.value (c.goes_behind.ensures []) c.if-goes_behind.false) (c.in_ok-split_at.ensures.done []) (h []))) (filled_into c.args.split x ps i [] c.requires.filled c.requires.page))
    (λ h. subst (AreFilled 64) (sym (h ∙ c.in_ok-split_at.ensures.done [])) (filled_split ps i [] c.requires.filled all)) c.insert_half.ensures.done c.insert_half.ensures.none

pub returns-clause-few : goal.returns-clause-few
returns-clause-few g c =
    let ps = c.args.pages.now.items in let i = c.args.page in let x = c.args.entry in let s = c.split_at.new.pages.items in let new = c.insert_half.new.pages.items in
    let all = full ps c.deref.result.now i c.keys.result [] c.requires.filled c.requires.page c.deref.ensures.value (c.keys.ensures []) c.if-keys-lt-PAGE_KEYS.false in
    either_way c.insert_half.result ((p : List Slot) → new ≡ half_set x s i (get_or s i p) (get_or s (i + 1) p)) (new ≡ s) (length new ≤ length ps + 1)
    (λ h. subst (λ (l : List (List Slot)). length l ≤ length ps + 1) (sym (halved_into c.args.split ps s new i x [] c.requires.page all (which c.args.split x ps c.deref-2.result.now i [] c.goes_behind.result false c.deref-2.ensures.value (c.goes_behind.ensures []) c.if-goes_behind.false) (c.in_ok-split_at.ensures.done []) (h []))) (few_into c.args.split x ps i (get_or ps i []) c.requires.page))
    (λ h. subst (λ (l : List (List Slot)). length l ≤ length ps + 1) (sym (h ∙ c.in_ok-split_at.ensures.done [])) (omega (arith, length-split ps i (get_or ps i []) c.requires.page))) c.insert_half.ensures.done c.insert_half.ensures.none
