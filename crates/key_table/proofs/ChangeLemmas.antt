-- One slot of one part is changed: so it is among all slots.
use Rattle.std.proofs.Common.{◌≡◌, ℕ, ◌+◌, ◌<◌, List, [], length, set, get_or, sym, ap, subst, ◌∙◌, arith}
use Rattle.std.specs.Prelude.{Some}
use Rattle.std.proofs.lemmas.Option.{slice_get-get_or, slice_get_within, get_or_from_slice_get}
use Rattle.row_chain.specs.Slots.{Slot, AreRising, chain_at}
use Rattle.row_chain.proofs.EditLemmas.{nil}
use Rattle.key_table.specs.Pages.{all_slots, page_place, AreFilled}
use Rattle.key_table.specs.Changes.{IsChangedAt}
use Rattle.key_table.proofs.PlaceLemmas.{chain_page}
use Rattle.key_table.proofs.PageEditLemmas.{IsFound, offset, slot_at, stands, all_changed}

pub changed_at : (R : Slot → Slot → Type 0) (ps new : List (List Slot)) (i j k : ℕ) (x : Slot) → IsFound ps i j k → R (get_or (get_or ps i []) j nil) x → new ≡ set ps i (set (get_or ps i []) j x) → IsChangedAt R k (all_slots ps) (all_slots new)
changed_at R ps new i j k x f change is = record {
  at = offset ps i + j;
  before = get_or (get_or ps i []) j nil;
  after = x;
  stood = slice_get-get_or (all_slots ps) (offset ps i + j) nil (stands ps i j k f).within ∙ ap Some (slot_at ps i j f.page f.slot);
  same_key = f.key;
  chain = f.chain;
  change = change;
  others = all_changed ps new i j k x f is;
}

-- the part in which a key stands
pub chain_part : (most : ℕ) (ps : List (List Slot)) (i k : ℕ) → AreFilled most ps → AreRising (all_slots ps) → i < length ps → i ≡ page_place k ps → chain_at (all_slots ps) k ≡ chain_at (get_or ps i []) k
chain_part most ps i k filled up lt place = chain_page most k ps [] filled up (some ps i lt) ∙ ap (λ (n : ℕ). chain_at (get_or ps n []) k) (sym place)
  where
    some : (ps : List (List Slot)) (i : ℕ) → i < length ps → 0 < length ps
    some ps i lt = omega arith

pub found_part : (most : ℕ) (R : Slot → Slot → Type 0) (ps : List (List Slot)) (p : List Slot) (i k : ℕ) → AreFilled most ps → AreRising (all_slots ps) → i < length ps → i ≡ page_place k ps → (change : IsChangedAt R k (get_or ps i []) p) → IsFound ps i change.at k
found_part most R ps p i k filled up lt place change =
    let here : get_or (get_or ps i []) change.at nil ≡ change.before = get_or_from_slice_get (get_or ps i []) change.at change.before nil change.stood in
    record {
      page = lt;
      slot = slice_get_within (get_or ps i []) change.at change.before change.stood;
      key = ap (λ (x : Slot). x.key) here ∙ change.same_key;
      chain = chain_part most ps i k filled up lt place ∙ change.chain ∙ ap (λ (x : Slot). Some x.chain) (sym here);
    }

pub changed_part : (most : ℕ) (R : Slot → Slot → Type 0) (ps new : List (List Slot)) (p : List Slot) (i k : ℕ) → AreFilled most ps → AreRising (all_slots ps) → i < length ps → i ≡ page_place k ps → IsChangedAt R k (get_or ps i []) p → new ≡ set ps i p → IsChangedAt R k (all_slots ps) (all_slots new)
changed_part most R ps new p i k filled up lt place change is =
    let here : get_or (get_or ps i []) change.at nil ≡ change.before = get_or_from_slice_get (get_or ps i []) change.at change.before nil change.stood in
    changed_at R ps new i change.at k change.after (found_part most R ps p i k filled up lt place change) (subst (λ (x : Slot). R x change.after) (sym here) change.change) (is ∙ ap (set ps i) change.others)
