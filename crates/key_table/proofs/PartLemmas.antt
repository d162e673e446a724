-- The groups of a table as parts of it.
use Rattle.std.proofs.Common.{◌≡◌, ℕ, ◌<◌, Bool, true, false, List, [], ◌∷◌, length, get_or, set, filter, cond, refl, sym, ap, subst, ◌∙◌, arith}
use Rattle.std.proofs.Math.ListN.{get_or-map}
use Rattle.std.proofs.lemmas.List.{length-map, map-set, get_or_default}
use Rattle.row_chain.proofs.TableLemmas.{test_false}
use Rattle.key_table.specs.Table.{Slot, AreRising, chain_at}
use Rattle.key_table.specs.Pages.{all_slots, begins_by, least_key, has_slots, page_place, AreFilled}
use Rattle.key_table.proofs.LeastLemmas.{begins_first}
use Rattle.key_table.proofs.ChangeLemmas.{chain_part}
use Rattle.key_table.proofs.PlaceLemmas.{filled_page}
use Rattle.key_table.specs.Groups.{group_slots, has_any}

pub length-group_slots : (gs : List (List (List Slot))) → length (group_slots gs) ≡ length gs
length-group_slots gs = length-map gs all_slots

pub within : (gs : List (List (List Slot))) (i : ℕ) → i < length gs → i < length (group_slots gs)
within gs i lt = let n = length-group_slots gs in omega (arith, n, lt)

pub part : (gs : List (List (List Slot))) (i : ℕ) (g : List (List Slot)) → g ≡ get_or gs i g → all_slots g ≡ get_or (group_slots gs) i (all_slots g)
part gs i g read = ap all_slots read ∙ sym (get_or-map all_slots gs i g)

pub part_at : (gs : List (List (List Slot))) (i : ℕ) → get_or (group_slots gs) i [] ≡ all_slots (get_or gs i [])
part_at gs i = get_or-map all_slots gs i []

pub part_set : (gs : List (List (List Slot))) (i : ℕ) (g : List (List Slot)) → group_slots (set gs i g) ≡ set (group_slots gs) i (all_slots g)
part_set gs i g = map-set all_slots gs i g

pub chain_group : (k i : ℕ) (gs : List (List (List Slot))) (g : List (List Slot)) → AreFilled 16384 (group_slots gs) → AreRising (all_slots (group_slots gs)) → i ≡ page_place k (group_slots gs) → i < length gs → g ≡ get_or gs i g → chain_at (all_slots g) k ≡ chain_at (all_slots (group_slots gs)) k
chain_group k i gs g filled up place lt read =
    ap (λ (l : List Slot). chain_at l k) (ap all_slots (read ∙ get_or_default gs i g [] lt) ∙ sym (part_at gs i))
    ∙ sym (chain_part 16384 (group_slots gs) i k filled up (within gs i lt) place)

-- a group that begins past a key
pub begins_past : (k n : ℕ) (gs : List (List (List Slot))) (i : ℕ) (p : List Slot) → AreFilled 16384 (group_slots gs) → i < length gs → p ≡ get_or (group_slots gs) i p → n ≡ least_key p → k < n → begins_by k p ≡ false
begins_past k n gs i p filled lt read is past =
    let some : 0 < length p = subst (λ (l : List Slot). 0 < length l) (sym read) (filled_page 16384 (group_slots gs) i p filled (within gs i lt)).0 in
    begins_first k p some ∙ test_false (least_key p) k (omega (arith, is, past))

-- the groups that have keys
pub parts_left : (gs : List (List (List Slot))) → group_slots (filter has_any gs) ≡ filter has_slots (group_slots gs)
parts_left [] = refl
parts_left (g ∷ gs) =
    elim (has_any g) as (λ (t : Bool). group_slots (cond t (g ∷ filter has_any gs) (filter has_any gs)) ≡ cond t (all_slots g ∷ filter has_slots (group_slots gs)) (filter has_slots (group_slots gs))) [
      | true ↦ ap (λ (l : List (List Slot)). all_slots g ∷ l) (parts_left gs)
      | false ↦ parts_left gs
    ]
