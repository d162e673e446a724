-- A group is split into two, or is changed among the others.
use Rattle.std.proofs.Common.{◌≡◌, ℕ, zero, suc, ◌+◌, ◌-◌, ◌≤◌, ◌<◌, eqb, Bool, true, false, cond, List, [], ◌∷◌, ◌++◌, length, map, take, drop, get_or, set, refl, sym, ap, subst, ◌∙◌, arith}
use Rattle.std.specs.List.{insert}
use Rattle.std.proofs.lemmas.Bool.{eqb-true, eqb-false}
use Rattle.std.proofs.lemmas.List.{append-nil, map-append, take-map, drop-map, length-take-le, length-drop, take-append-drop}
use Rattle.key_table.specs.Table.{Slot, AreRising}
use Rattle.key_table.specs.Pages.{all_slots, with_slot, begins_by, begun, page_place, least_key, least_keys, AreFilled, IsGroupSized}
use Rattle.key_table.proofs.PagesLemmas.{all-append, begins, with_slot_left, with_slot_right, rising_back}
use Rattle.key_table.proofs.PlaceLemmas.{filled_page}
use Rattle.key_table.proofs.PageEditLemmas.{filled-set, halved, all_halved, filled_halved, length_halved, lower_half, upper_half}
use Rattle.key_table.specs.Changes.{IsChangedAt, IsAdded}
use Rattle.key_table.proofs.ChangeLemmas.{changed_part}
use Rattle.key_table.proofs.LeastLemmas.{least_halves}
use Rattle.key_table.proofs.GroupLemmas.{least_append}
use Rattle.key_table.specs.Groups.{group_slots}
use Rattle.key_table.proofs.PartLemmas.{length-group_slots, within, part_at, part_set}

pub groups_halved : (gs : List (List (List Slot))) (i : ℕ) (lo hi : List (List Slot)) → group_slots (halved gs i lo hi) ≡ halved (group_slots gs) i (all_slots lo) (all_slots hi)
groups_halved gs i lo hi =
    map-append all_slots (take i gs) (lo ∷ hi ∷ drop (i + 1) gs)
    ∙ ap (λ (l : List (List Slot)). l ++ all_slots lo ∷ all_slots hi ∷ map all_slots (drop (i + 1) gs)) (sym (take-map all_slots i gs))
    ∙ ap (λ (l : List (List Slot)). take i (group_slots gs) ++ all_slots lo ∷ all_slots hi ∷ l) (sym (drop-map all_slots (i + 1) gs))

pub least_halved : (ps : List (List Slot)) (i : ℕ) (lo hi : List Slot) → i < length ps → lo ++ hi ≡ get_or ps i [] → 0 < length lo → insert (least_keys ps) (i + 1) (least_key hi) ≡ least_keys (halved ps i lo hi)
least_halved ps i lo hi lt whole some =
    let n : suc i ≡ i + 1 = omega arith in
    subst (λ (m : ℕ). insert (least_keys ps) m (least_key hi) ≡ least_keys (take i ps ++ lo ∷ hi ∷ drop m ps)) n
    (sym (least_halves ps i lo hi [] lt (sym (least_append lo hi some) ∙ ap least_key whole)))

-- ---- the place of a key after its group was split: one of the two

begun_halved : (k : ℕ) (ps : List (List Slot)) (j : ℕ) (lo hi d : List Slot) → begun k ps ≡ suc j → begins_by k lo ≡ begins_by k (get_or ps j d) → begun k (take j ps ++ lo ∷ hi ∷ drop (suc j) ps) ≡ cond (begins_by k hi) (suc (suc j)) (suc j)
begun_halved k [] j lo hi d is same = absurd (omega (arith, is))
begun_halved k (q ∷ ps) zero lo hi d is same =
    (elim (begins_by k q) as (λ (t : Bool). cond t (suc (begun k ps)) 0 ≡ 1 → begins_by k lo ≡ t → cond (begins_by k lo) (suc (cond (begins_by k hi) (suc (begun k ps)) 0)) 0 ≡ cond (begins_by k hi) 2 1) [
      | true ↦ λ e f.
          let none : begun k ps ≡ 0 = omega (arith, e) in
          ap (λ (t : Bool). cond t (suc (cond (begins_by k hi) (suc (begun k ps)) 0)) 0) f
          ∙ ap (λ (n : ℕ). suc (cond (begins_by k hi) (suc n) 0)) none
          ∙ elim (begins_by k hi) as (λ (t : Bool). suc (cond t 1 0) ≡ cond t 2 1) [ true ↦ refl | false ↦ refl ]
      | false ↦ λ e f. absurd (omega (arith, e))
    ]) is same
begun_halved k (q ∷ ps) (suc j) lo hi d is same =
    (elim (begins_by k q) as (λ (t : Bool). cond t (suc (begun k ps)) 0 ≡ suc (suc j) → cond t (suc (begun k (take j ps ++ lo ∷ hi ∷ drop (suc j) ps))) 0 ≡ cond (begins_by k hi) (suc (suc (suc j))) (suc (suc j))) [
      | true ↦ λ e.
          ap suc (begun_halved k ps j lo hi d (omega (arith, e)) same)
          ∙ elim (begins_by k hi) as (λ (t : Bool). suc (cond t (suc (suc j)) (suc j)) ≡ cond t (suc (suc (suc j))) (suc (suc j))) [ true ↦ refl | false ↦ refl ]
      | false ↦ λ e. absurd (omega (arith, e))
    ]) is

place_halves : (k : ℕ) (ps : List (List Slot)) (i : ℕ) (lo hi d : List Slot) → i < length ps → page_place k ps ≡ i → begins_by k lo ≡ begins_by k (get_or ps i d) → page_place k (take i ps ++ lo ∷ hi ∷ drop (suc i) ps) ≡ cond (begins_by k hi) (suc i) i
place_halves k [] i lo hi d lt is same = absurd (omega arith)
place_halves k (p ∷ ps) zero lo hi d lt is same = ap (λ (n : ℕ). cond (begins_by k hi) (suc n) 0) is
place_halves k (p ∷ ps) (suc j) lo hi d lt is same = begun_halved k ps j lo hi d is same

pub place_halved : (k : ℕ) (ps : List (List Slot)) (i n : ℕ) (lo hi : List Slot) → i < length ps → i ≡ page_place k ps → lo ++ hi ≡ get_or ps i [] → 0 < length lo → n ≡ page_place k (halved ps i lo hi) → (i ≤ n) × (n ≤ i + 1)
place_halved k ps i n lo hi lt place whole some is =
    let m : suc i ≡ i + 1 = omega arith in
    let same : begins_by k lo ≡ begins_by k (get_or ps i []) = sym (begins k lo hi some) ∙ ap (begins_by k) whole in
    let at : page_place k (halved ps i lo hi) ≡ cond (begins_by k hi) (suc i) i =
    subst (λ (m : ℕ). page_place k (take i ps ++ lo ∷ hi ∷ drop m ps) ≡ cond (begins_by k hi) (suc i) i) m (place_halves k ps i lo hi [] lt (sym place) same) in
    between (begins_by k hi) (is ∙ at)
  where
    between : (t : Bool) → n ≡ cond t (suc i) i → (i ≤ n) × (n ≤ i + 1)
    between true e = (omega arith, omega arith)
    between false e = (omega arith, omega arith)

-- ---- one more slot, in its place in a part

pub all_placed : (most : ℕ) (x : Slot) (ps : List (List Slot)) → AreFilled most ps → AreRising (all_slots ps) → 0 < length ps → all_slots (set ps (page_place x.key ps) (with_slot x (get_or ps (page_place x.key ps) []))) ≡ with_slot x (all_slots ps)
all_placed most x [] filled up lt = absurd (omega arith)
all_placed most x (p ∷ []) filled up lt = append-nil (with_slot x p) ∙ ap (with_slot x) (sym (append-nil p))
all_placed most x (p ∷ q ∷ ps) filled up lt =
    let start : begins_by x.key (q ++ all_slots ps) ≡ begins_by x.key q = begins x.key q (all_slots ps) filled.1.0.0 in
    elim (begins_by x.key q) as (λ (t : Bool). begins_by x.key q ≡ t → all_slots (set (p ∷ q ∷ ps) (cond t (suc (begun x.key ps)) 0) (with_slot x (get_or (p ∷ q ∷ ps) (cond t (suc (begun x.key ps)) 0) []))) ≡ with_slot x (p ++ all_slots (q ∷ ps))) [
      | true ↦ λ e. ap (λ (l : List Slot). p ++ l) (all_placed most x (q ∷ ps) filled.1 (rising_back p (all_slots (q ∷ ps)) up) (omega arith))
          ∙ sym (with_slot_right x p (all_slots (q ∷ ps)) up (start ∙ e))
      | false ↦ λ e. sym (with_slot_left x p (all_slots (q ∷ ps)) up (start ∙ e))
    ] refl

-- ---- one group is changed

pub part_changed : (R : Slot → Slot → Type 0) (k : ℕ) (gs : List (List (List Slot))) (i : ℕ) (g : List (List Slot)) → IsChangedAt R k (all_slots (get_or gs i [])) (all_slots g) → IsChangedAt R k (get_or (group_slots gs) i []) (all_slots g)
part_changed R k gs i g change = subst (λ (l : List Slot). IsChangedAt R k l (all_slots g)) (sym (part_at gs i)) change

pub group_changed : (R : Slot → Slot → Type 0) (k : ℕ) (gs new : List (List (List Slot))) (i : ℕ) (g : List (List Slot)) → AreFilled 16384 (group_slots gs) → AreRising (all_slots (group_slots gs)) → i < length gs → i ≡ page_place k (group_slots gs) → new ≡ set gs i g
    → IsChangedAt R k (all_slots (get_or gs i [])) (all_slots g) → IsChangedAt R k (all_slots (group_slots gs)) (all_slots (group_slots new))
group_changed R k gs new i g filled up lt place is change =
    changed_part 16384 R (group_slots gs) (group_slots new) (all_slots g) i k filled up (within gs i lt) place (part_changed R k gs i g change) (ap group_slots is ∙ part_set gs i g)

pub group_added : (w k : ℕ) (gs new : List (List (List Slot))) (i : ℕ) (g : List (List Slot)) → AreFilled 16384 (group_slots gs) → AreRising (all_slots (group_slots gs)) → i < length gs → i ≡ page_place k (group_slots gs) → new ≡ set gs i g
    → IsAdded w k (all_slots (get_or gs i [])) (all_slots g) → IsAdded w k (all_slots (group_slots gs)) (all_slots (group_slots new))
group_added w k gs new i g filled up lt place is added =
    let ps = group_slots gs in
    let x = added.slot in
    let at : i ≡ page_place x.key ps = place ∙ ap (λ (j : ℕ). page_place j ps) (sym added.new_key) in
    let slots : all_slots g ≡ with_slot x (get_or ps i []) = added.others ∙ ap (with_slot x) (sym (part_at gs i)) in
    record {
      slot = x;
      new_key = added.new_key;
      versions = added.versions;
      row_width = added.row_width;
      room = added.room;
      others = ap all_slots (ap group_slots is ∙ part_set gs i g) ∙ ap (λ (l : List Slot). all_slots (set ps i l)) slots
          ∙ ap (λ (n : ℕ). all_slots (set ps n (with_slot x (get_or ps n [])))) at ∙ all_placed 16384 x ps filled up (some gs i lt);
    }
  where
    some : (gs : List (List (List Slot))) (i : ℕ) → i < length gs → 0 < length (group_slots gs)
    some gs i lt = let n = length-group_slots gs in omega (arith, n, lt)

pub filled_set : (gs new : List (List (List Slot))) (i : ℕ) (g : List (List Slot)) → AreFilled 16384 (group_slots gs) → i < length gs → new ≡ set gs i g → length (all_slots (get_or gs i [])) ≤ length (all_slots g) → length (all_slots g) ≤ 16384 → AreFilled 16384 (group_slots new)
filled_set gs new i g filled lt is more most =
    let some : 0 < length (get_or (group_slots gs) i []) = (filled_page 16384 (group_slots gs) i [] filled (within gs i lt)).0 in
    let here = ap (λ (l : List Slot). length l) (part_at gs i) in
    subst (AreFilled 16384) (sym (ap group_slots is ∙ part_set gs i g)) (filled-set 16384 (group_slots gs) i (all_slots g) filled (omega (arith, some, here, more), most))

-- ---- one group is split

some_lower : (g : List (List Slot)) → length g ≡ 256 → IsGroupSized (take 128 g) → 0 < length (all_slots (take 128 g))
some_lower g full size =
    let n : length (take 128 g) ≡ 128 = length-take-le 128 g (omega arith) in
    let some : length (take 128 g) ≤ length (all_slots (take 128 g)) = size.some in
    omega arith

some_upper : (g : List (List Slot)) → length g ≡ 256 → IsGroupSized (drop 128 g) → 0 < length (all_slots (drop 128 g))
some_upper g full size =
    let n : length (drop 128 g) ≡ length g - 128 = length-drop 128 g in
    let some : length (drop 128 g) ≤ length (all_slots (drop 128 g)) = size.some in
    omega arith

whole : (gs : List (List (List Slot))) (i : ℕ) → all_slots (take 128 (get_or gs i [])) ++ all_slots (drop 128 (get_or gs i [])) ≡ get_or (group_slots gs) i []
whole gs i = sym (all-append (take 128 (get_or gs i [])) (drop 128 (get_or gs i []))) ∙ ap all_slots (take-append-drop 128 (get_or gs i [])) ∙ sym (part_at gs i)

abbrev pub split_group : List (List (List Slot)) → ℕ → List (List (List Slot))
split_group gs i = halved gs i (take 128 (get_or gs i [])) (drop 128 (get_or gs i []))

parts_split : (gs new : List (List (List Slot))) (i : ℕ) → new ≡ split_group gs i → group_slots new ≡ halved (group_slots gs) i (all_slots (take 128 (get_or gs i []))) (all_slots (drop 128 (get_or gs i [])))
parts_split gs new i is = ap group_slots is ∙ groups_halved gs i (take 128 (get_or gs i [])) (drop 128 (get_or gs i []))

pub split_slots : (gs new : List (List (List Slot))) (i : ℕ) → i < length gs → new ≡ split_group gs i → all_slots (group_slots new) ≡ all_slots (group_slots gs)
split_slots gs new i lt is =
    ap all_slots (parts_split gs new i is) ∙ all_halved (group_slots gs) i (all_slots (take 128 (get_or gs i []))) (all_slots (drop 128 (get_or gs i []))) [] (within gs i lt) (whole gs i)

pub split_filled : (gs new : List (List (List Slot))) (i : ℕ) → AreFilled 16384 (group_slots gs) → length (get_or gs i []) ≡ 256 → IsGroupSized (take 128 (get_or gs i [])) → IsGroupSized (drop 128 (get_or gs i [])) → new ≡ split_group gs i → AreFilled 16384 (group_slots new)
split_filled gs new i filled full low high is =
    let g = get_or gs i [] in
    subst (AreFilled 16384) (sym (parts_split gs new i is))
    (filled_halved 16384 (group_slots gs) i (all_slots (take 128 g)) (all_slots (drop 128 g)) filled (some_lower g full low, low.most) (some_upper g full high, high.most))

pub split_least : (gs new d : List (List (List Slot))) (ls rs out : List ℕ) (i first : ℕ) (b : Bool) → i < length gs → length (get_or gs i []) ≡ 256 → IsGroupSized (take 128 (get_or gs i [])) → ls ≡ least_keys (group_slots gs) → rs ≡ ls → new ≡ split_group gs i → d ≡ new
    → first ≡ least_key (all_slots (get_or d (i + 1) [])) → out ≡ cond b (insert rs (i + 1) first) rs → b ≡ true → out ≡ least_keys (group_slots new)
split_least gs new d ls rs out i first b lt full low is same eq read note out_is ok =
    let g = get_or gs i [] in
    let upper_key : first ≡ least_key (all_slots (drop 128 g)) = note ∙ ap (λ (l : List (List (List Slot))). least_key (all_slots (get_or l (i + 1) []))) (read ∙ eq) ∙ ap (λ (l : List (List Slot)). least_key (all_slots l)) (upper_half gs i (take 128 g) (drop 128 g) [] lt) in
    out_is ∙ ap (λ (t : Bool). cond t (insert rs (i + 1) first) rs) ok
    ∙ ap (λ (l : List ℕ). insert l (i + 1) first) (same ∙ is)
    ∙ ap (insert (least_keys (group_slots gs)) (i + 1)) upper_key
    ∙ least_halved (group_slots gs) i (all_slots (take 128 g)) (all_slots (drop 128 g)) (within gs i lt) (whole gs i) (some_lower g full low)
    ∙ ap least_keys (sym (parts_split gs new i eq))

pub split_length : (gs new : List (List (List Slot))) (i : ℕ) → i < length gs → new ≡ split_group gs i → length new ≡ length gs + 1
split_length gs new i lt is = ap (λ (l : List (List (List Slot))). length l) is ∙ length_halved gs i (take 128 (get_or gs i [])) (drop 128 (get_or gs i [])) lt

-- where the key then stands there is room
pub split_room : (k : ℕ) (gs new : List (List (List Slot))) (i n : ℕ) (d : List (List Slot)) → i < length gs → i ≡ page_place k (group_slots gs) → length (get_or gs i []) ≡ 256 → IsGroupSized (take 128 (get_or gs i [])) → new ≡ split_group gs i → n ≡ page_place k (group_slots new) → length (get_or new n d) < 256
split_room k gs new i n d lt place full low is at =
    let g = get_or gs i [] in
    let near = place_halved k (group_slots gs) i n (all_slots (take 128 g)) (all_slots (drop 128 g)) (within gs i lt) place (whole gs i) (some_lower g full low) (at ∙ ap (page_place k) (parts_split gs new i is)) in
    let lower : length (get_or new i d) ≡ 128 = ap (λ (l : List (List (List Slot))). length (get_or l i d)) is ∙ ap (λ (l : List (List Slot)). length l) (lower_half gs i (take 128 g) (drop 128 g) d lt) ∙ length-take-le 128 g (omega arith) in
    let upper : length (get_or new (i + 1) d) ≡ length g - 128 = ap (λ (l : List (List (List Slot))). length (get_or l (i + 1) d)) is ∙ ap (λ (l : List (List Slot)). length l) (upper_half gs i (take 128 g) (drop 128 g) d lt) ∙ length-drop 128 g in
    either n near.0 near.1 lower upper
  where
    at_lower : (n : ℕ) → n ≡ i → length (get_or new i d) ≡ 128 → length (get_or new n d) < 256
    at_lower n e lower = let l = ap (λ (m : ℕ). length (get_or new m d)) e in omega (arith, l, lower)

    at_upper : (n : ℕ) → n ≡ i + 1 → length (get_or new (i + 1) d) ≡ length (get_or gs i []) - 128 → length (get_or new n d) < 256
    at_upper n e upper = let l = ap (λ (m : ℕ). length (get_or new m d)) e in omega (arith, l, upper, full)

    either : (n : ℕ) → i ≤ n → n ≤ i + 1 → length (get_or new i d) ≡ 128 → length (get_or new (i + 1) d) ≡ length (get_or gs i []) - 128 → length (get_or new n d) < 256
    either n low high lower upper =
        elim (eqb n i) as (λ (t : Bool). eqb n i ≡ t → length (get_or new n d) < 256) [
          | true ↦ λ e. at_lower n (eqb-true n i e) lower
          | false ↦ λ e. let other = eqb-false n i e in at_upper n (omega arith) upper
        ] refl
