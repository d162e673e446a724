-- One call more in a ring.
use Rattle.std.proofs.Common.{◌≡◌, ◌≢◌, inl, inr, ℕ, ◌+◌, ◌/◌, ◌%◌, ◌<◌, Bool, ◌&&◌, List, [], ◌∷◌, ◌++◌, length, get_or, sym, ap, subst, ◌∙◌, arith}
use Rattle.std.specs.Prelude.{slice_index_or, slice_set}
use Rattle.std.specs.FinMap.{empty}
use Rattle.std.proofs.lemmas.List.{length-append, get_or-set_same, get_or-set_other}
use Rattle.std.proofs.Math.Nat.{mod-lt}
use Rattle.schema.specs.Rows.{Writes}
use Rattle.sig_lanes.specs.Bits.{has_bit, signature_at}
use Rattle.log_model.specs.declared.verdict.Verdict.{Verdict}
use Rattle.log_model.specs.Log.{CertifiedItem, is_commit}
use Rattle.certify.specs.Kept.{PreparedCall, IsPreparedOf, ShareAlike, Ring, IsKept, Keeps}
use Rattle.certify.proofs.ListLemmas.{get_one_more}
use Rattle.certify.proofs.PlaceLemmas.{places_apart}

-- what is done at the place of the call after so many
pub record IsPut (old new : Ring) (before : ℕ) (verdict : Verdict) (p : PreparedCall) : Type 0 where
  pub blocks : length new.blocks ≡ length old.blocks
  pub writes : new.writes ≡ slice_set old.writes (before % length old.writes) p.writes
  pub count : length new.writes ≡ length old.writes
  pub put : (bit : ℕ) → has_bit (signature_at (slice_index_or new.blocks (before % length old.writes / 8) []) (before % length old.writes % 8)) bit ≡ (is_commit verdict && has_bit p.signature bit)
  pub others : (other : ℕ) → other ≢ before % length old.writes
      → signature_at (slice_index_or new.blocks (other / 8) []) (other % 8) ≡ signature_at (slice_index_or old.blocks (other / 8) []) (other % 8)

kept_new : (old new : Ring) (before : ℕ) (p : PreparedCall) (c : CertifiedItem) → 0 < length old.writes → IsPut old new before c.verdict p → IsPreparedOf p c.writes → IsKept new before c
kept_new old new before p c some put is =
    let place : before % length new.writes ≡ before % length old.writes = ap (λ (n : ℕ). before % n) put.count in
    record {
      signature = λ bit few.
          ap (λ (at : ℕ). has_bit (signature_at (slice_index_or new.blocks (at / 8) []) (at % 8)) bit) place
          ∙ put.put bit
          ∙ ap (λ (b : Bool). is_commit c.verdict && b) (is.signature bit few);
      keys = subst (λ (w : Writes). ShareAlike w c.writes) (sym (
          ap (λ (at : ℕ). get_or new.writes at empty) place
          ∙ ap (λ (ws : List Writes). get_or ws (before % length old.writes) empty) put.writes
          ∙ get_or-set_same old.writes (before % length old.writes) p.writes empty (mod-lt before some))) is.keys;
    }

kept_old : (old new : Ring) (before other : ℕ) (verdict : Verdict) (p : PreparedCall) (c : CertifiedItem) → other % length old.writes ≢ before % length old.writes → IsPut old new before verdict p → IsKept old other c → IsKept new other c
kept_old old new before other verdict p c apart put is =
    let place : other % length new.writes ≡ other % length old.writes = ap (λ (n : ℕ). other % n) put.count in
    record {
      signature = λ bit few.
          ap (λ (at : ℕ). has_bit (signature_at (slice_index_or new.blocks (at / 8) []) (at % 8)) bit) place
          ∙ ap (λ (words : List ℕ). has_bit words bit) (put.others (other % length old.writes) apart)
          ∙ is.signature bit few;
      keys = subst (λ (w : Writes). ShareAlike w c.writes) (sym (
          ap (λ (at : ℕ). get_or new.writes at empty) place
          ∙ ap (λ (ws : List Writes). get_or ws (other % length old.writes) empty) put.writes
          ∙ get_or-set_other old.writes (before % length old.writes) (other % length old.writes) p.writes empty apart)) is.keys;
    }

pub keeps_one_more : (old new : Ring) (past : List CertifiedItem) (before : ℕ) (verdict : Verdict) (p : PreparedCall) (c : CertifiedItem) → 0 < length old.writes → length past ≡ before → c.verdict ≡ verdict
    → IsPut old new before verdict p → IsPreparedOf p c.writes → Keeps old past → Keeps new (past ++ c ∷ [])
keeps_one_more old new past before verdict p c some count same put is keeps other x stands near =
    let more : length (past ++ c ∷ []) ≡ length past + 1 = length-append past (c ∷ []) in
    let places = put.count in
    elim (get_one_more past c x other stands) [
      | inl old_one ↦
          let lt = old_one.0 in
          let far : before < other + length old.writes = omega arith in
          let differ : other ≢ before = (λ e. omega arith) in
          kept_old old new before other verdict p x (places_apart other before (length old.writes) differ (omega arith) far) put (keeps other x old_one.1 (omega arith))
      | inr new_one ↦
          let at : other ≡ before = new_one.0 ∙ count in
          subst (λ (n : ℕ). IsKept new n x) (sym at)
          (subst (IsKept new before) new_one.1
          (kept_new old new before p c some (subst (λ (v : Verdict). IsPut old new before v p) (sym same) put) is))
    ]
