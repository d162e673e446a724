-- What a group's pages are, and halves of them.
use Rattle.std.proofs.Common.{◌≡◌, ℕ, eqb, not, ◌+◌, ◌*◌, ◌-◌, ◌≤◌, ◌<◌, List, [], ◌∷◌, ◌++◌, length, take, drop, get_or, refl, sym, ap, subst, ◌∙◌, arith}
use Rattle.std.proofs.lemmas.Bool.{lt-ltb, ne_eqb}
use Rattle.std.proofs.lemmas.List.{length-append, take-append-drop, length-take-le, length-drop, take-map, drop-map}
use Rattle.row_chain.specs.Slots.{Slot, AreRising}
use Rattle.key_table.specs.Pages.{all_slots, least_key, least_keys, has_slots, AreFilled, ArePages, IsGroupSized}
use Rattle.key_table.proofs.PagesLemmas.{all-append, rising_front}
use Rattle.key_table.proofs.PlaceLemmas.{length-pages, rising-drop_pages, filled-drop}
use Rattle.key_table.proofs.PageEditLemmas.{filled-take}

pub sized : (ps : List (List Slot)) → ArePages ps → IsGroupSized ps
sized ps pages =
    let both = length-pages 64 ps pages.filled in
    let few : length ps ≤ 256 = pages.few in
    let most : length (all_slots ps) ≤ 64 * length ps = both.1 in
    record { few = few; some = both.0; most = omega arith }

pub pages_taken : (n : ℕ) (ps : List (List Slot)) → ArePages ps → n ≤ length ps → ArePages (take n ps)
pages_taken n ps pages le =
    let whole : all_slots (take n ps) ++ all_slots (drop n ps) ≡ all_slots ps = sym (all-append (take n ps) (drop n ps)) ∙ ap all_slots (take-append-drop n ps) in
    let count : length (take n ps) ≡ n = length-take-le n ps le in
    let few : length ps ≤ 256 = pages.few in
    record { rising = rising_front (all_slots (take n ps)) (all_slots (drop n ps)) (subst AreRising (sym whole) pages.rising); filled = filled-take 64 n ps pages.filled; few = omega arith }

pub pages_dropped : (n : ℕ) (ps : List (List Slot)) → ArePages ps → ArePages (drop n ps)
pages_dropped n ps pages =
    let count : length (drop n ps) ≡ length ps - n = length-drop n ps in
    let few : length ps ≤ 256 = pages.few in
    record { rising = rising-drop_pages n ps pages.rising; filled = filled-drop 64 n ps pages.filled; few = omega arith }

pub least_taken : (n : ℕ) (ps qs : List (List Slot)) (ls ms : List ℕ) → ls ≡ least_keys ps → ms ≡ take n ls → qs ≡ take n ps → ms ≡ least_keys qs
least_taken n ps qs ls ms is taken same = taken ∙ ap (take n) is ∙ take-map least_key n ps ∙ ap least_keys (sym same)

pub least_dropped : (n : ℕ) (ps qs : List (List Slot)) (ls ms : List ℕ) → ls ≡ least_keys ps → ms ≡ drop n ls → qs ≡ drop n ps → ms ≡ least_keys qs
least_dropped n ps qs ls ms is dropped same = dropped ∙ ap (drop n) is ∙ drop-map least_key n ps ∙ ap least_keys (sym same)

pub least_append : (p rest : List Slot) → 0 < length p → least_key (p ++ rest) ≡ least_key p
least_append [] rest lt = absurd (omega arith)
least_append (x ∷ p) rest lt = refl

-- the first page's least key is that of all
pub first_least : (most : ℕ) (ps : List (List Slot)) (ls : List ℕ) → AreFilled most ps → ls ≡ least_keys ps → get_or ls 0 0 ≡ least_key (all_slots ps)
first_least most ps ls filled is = ap (λ (l : List ℕ). get_or l 0 0) is ∙ first ps filled
  where
    first : (ps : List (List Slot)) → AreFilled most ps → get_or (least_keys ps) 0 0 ≡ least_key (all_slots ps)
    first [] filled = refl
    first (p ∷ ps) filled = sym (least_append p (all_slots ps) filled.0.0)

pub some_slots : (most : ℕ) (ps : List (List Slot)) → AreFilled most ps → not (eqb (length ps) 0) ≡ has_slots (all_slots ps)
some_slots most [] filled = refl
some_slots most (p ∷ ps) filled =
    let some : 0 < length p = filled.0.0 in
    let all : length (p ++ all_slots ps) ≡ length p + length (all_slots ps) = length-append p (all_slots ps) in
    ap not (ne_eqb (length (p ∷ ps)) 0 (omega arith)) ∙ sym (lt-ltb 0 (length (p ++ all_slots ps)) (omega arith))
