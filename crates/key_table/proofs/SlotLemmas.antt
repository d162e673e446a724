-- What a change of one key's slot leaves at each key.
use Rattle.std.proofs.Common.{◌≡◌, ℕ, zero, suc, ◌<◌, ◌^◌, eqb, cond, Bool, true, false, List, [], ◌∷◌, ◌++◌, length, get_or, refl, sym, ap, subst, ◌∙◌}
use Rattle.std.specs.Prelude.{◌≢◌, Option, Some, None}
use Rattle.std.specs.List.{insert}
use Rattle.std.proofs.lemmas.List.{length-set}
use Rattle.std.proofs.lemmas.Option.{slice_get_within, get_or_from_slice_get}
use Rattle.key_table.specs.Table.{Slot, AreRising, AreSlotsOf, below, chain_at, versions_in, versions_at, HasRoomAt, IsReserved, IsPushed}
use Rattle.key_table.specs.Changes.{IsChangedAt, IsAdded}
use Rattle.row_chain.proofs.EditLemmas.{nil, StandsAt, IsChanged, is_changed, is_inserted, wide_changed, wide_inserted, versions_same, versions_pushed, room_here, room_kept, room_other, room_at}

here : (R : Slot → Slot → Type 0) (k : ℕ) (es new : List Slot) (change : IsChangedAt R k es new) → get_or es change.at nil ≡ change.before
here R k es new change = get_or_from_slice_get es change.at change.before nil change.stood

standing : (R : Slot → Slot → Type 0) (k : ℕ) (es new : List Slot) (change : IsChangedAt R k es new) → StandsAt es change.at k
standing R k es new change = record {
  within = slice_get_within es change.at change.before change.stood;
  key = ap (λ (x : Slot). x.key) (here R k es new change) ∙ change.same_key;
  chain = change.chain ∙ ap (λ (x : Slot). Some x.chain) (sym (here R k es new change));
}

changed : (R : Slot → Slot → Type 0) (k : ℕ) (es new : List Slot) (change : IsChangedAt R k es new) → AreRising es → change.after.key ≡ change.before.key → IsChanged es new k change.after
changed R k es new change up same = is_changed es new change.at k change.after up (standing R k es new change) (same ∙ ap (λ (x : Slot). x.key) (sym (here R k es new change))) change.others

wide : (R : Slot → Slot → Type 0) (w k : ℕ) (es new : List Slot) (change : IsChangedAt R k es new) → AreSlotsOf w es → change.after.key ≡ change.before.key → change.after.chain.width ≡ change.before.chain.width → AreSlotsOf w new
wide R w k es new change h key width =
    wide_changed w es new change.at k change.after h (standing R k es new change) (key ∙ ap (λ (x : Slot). x.key) (sym (here R k es new change))) (width ∙ ap (λ (x : Slot). x.chain.width) (sym (here R k es new change))) change.others

-- ---- room is made

pub record Reserved (w k : ℕ) (granted : Bool) (es new : List Slot) : Type 0 where
  pub rising : AreRising new
  pub wide : AreSlotsOf w new
  pub versions : (q : ℕ) → versions_at new q ≡ versions_at es q
  pub room : granted ≡ true → HasRoomAt new k
  pub more : (q : ℕ) → HasRoomAt es q → HasRoomAt new q

pub reserved_found : (w k : ℕ) (granted : Bool) (es new : List Slot) → AreRising es → AreSlotsOf w es → IsChangedAt (IsReserved granted) k es new → Reserved w k granted es new
reserved_found w k granted es new up h change =
    let is = changed (IsReserved granted) k es new change up change.change.key in
    let chain = change.after.chain in
    record {
      rising = is.rising;
      wide = wide (IsReserved granted) w k es new change h change.change.key change.change.width;
      versions = λ q. versions_same es new k chain q (is.chains q) (change.change.versions ∙ ap versions_in (sym change.chain));
      room = λ e. room_here es new k chain (is.chains k) (change.change.room e);
      more = λ q r. room_kept es new k chain q (is.chains q) (λ r. change.change.more (room_at es k change.before.chain change.chain r)) r;
    }

pub reserved_added : (w k : ℕ) (granted : Bool) (es new : List Slot) → AreRising es → AreSlotsOf w es → k < 2 ^ 64 → chain_at es k ≡ None → IsAdded w k es new → Reserved w k granted es new
reserved_added w k granted es new up h word none added =
    let x = added.slot in
    let is = is_inserted es new (below x.key es) k x up none (ap (λ (j : ℕ). below j es) added.new_key) added.new_key added.others in
    record {
      rising = is.rising;
      wide = wide_inserted w es new (below x.key es) x h (added.row_width, subst (λ (j : ℕ). j < 2 ^ 64) (sym added.new_key) word) added.others;
      versions = λ q. versions_same es new k x.chain q (is.chains q) (added.versions ∙ ap versions_in (sym none));
      room = λ e. room_here es new k x.chain (is.chains k) added.room;
      more = λ q r. room_kept es new k x.chain q (is.chains q) (λ _. added.room) r;
    }

pub reserved_none : (w k : ℕ) (granted : Bool) (es new : List Slot) → AreRising es → AreSlotsOf w es → granted ≡ false → new ≡ es → Reserved w k granted es new
reserved_none w k granted es new up h refused same = record {
  rising = subst AreRising (sym same) up;
  wide = subst (AreSlotsOf w) (sym same) h;
  versions = λ q. ap (λ (l : List Slot). versions_at l q) same;
  room = λ e. absurd (cc);
  more = λ q r. subst (λ (l : List Slot). HasRoomAt l q) (sym same) r;
}

-- ---- a version is pushed

pub rising_after_push : (position k : ℕ) (row : Option (List ℕ)) (es new : List Slot) → AreRising es → IsChangedAt (IsPushed position row) k es new → AreRising new
rising_after_push position k row es new up change = (changed (IsPushed position row) k es new change up change.change.key).rising

pub wide_after_push : (w position k : ℕ) (row : Option (List ℕ)) (es new : List Slot) → AreSlotsOf w es → IsChangedAt (IsPushed position row) k es new → AreSlotsOf w new
wide_after_push w position k row es new h change = wide (IsPushed position row) w k es new change h change.change.key change.change.width

pub versions_after_push : (position k : ℕ) (row : Option (List ℕ)) (es new : List Slot) (q : ℕ) → AreRising es → IsChangedAt (IsPushed position row) k es new
    → versions_at new q ≡ cond (eqb k q) (versions_at es q ++ record { position = position; row = row } ∷ []) (versions_at es q)
versions_after_push position k row es new q up change =
    versions_pushed es new k change.after change.before.chain (record { position = position; row = row }) q (changed (IsPushed position row) k es new change up change.change.key) change.chain change.change.versions

pub room_after_push : (position k : ℕ) (row : Option (List ℕ)) (es new : List Slot) (q : ℕ) → AreRising es → IsChangedAt (IsPushed position row) k es new → k ≢ q → HasRoomAt es q → HasRoomAt new q
room_after_push position k row es new q up change ne room =
    room_other es new k change.after.chain q ((changed (IsPushed position row) k es new change up change.change.key).chains q) ne room

pub length_changed : (R : Slot → Slot → Type 0) (k : ℕ) (es new : List Slot) → IsChangedAt R k es new → length new ≡ length es
length_changed R k es new change = ap (λ (l : List Slot). length l) change.others ∙ length-set es change.at change.after

pub length_added : (w k : ℕ) (es new : List Slot) → IsAdded w k es new → length new ≡ suc (length es)
length_added w k es new added = ap (λ (l : List Slot). length l) added.others ∙ inserted es (below added.slot.key es) added.slot
  where
    inserted : (es : List Slot) (i : ℕ) (x : Slot) → length (insert es i x) ≡ suc (length es)
    inserted es zero x = refl
    inserted [] (suc i) x = refl
    inserted (e ∷ es) (suc i) x = ap suc (inserted es i x)
