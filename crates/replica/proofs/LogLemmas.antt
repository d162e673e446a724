-- Verdicts and rows of a replica are the log's.
use Rattle.std.proofs.Common.{◌≡◌, ℕ, zero, suc, ◌+◌, ◌-◌, ◌≤◌, ◌<◌, List, [], ◌∷◌, ◌++◌, length, take, slice_get, refl, sym, ap, subst, ◌∙◌, arith}
use Rattle.std.specs.Prelude.{Some, None}
use Rattle.std.specs.Option.{option_map}
use Rattle.std.specs.List.{fold}
use Rattle.std.proofs.lemmas.List.{take-append-le, take_all, length-append}
use Rattle.std.proofs.lemmas.Option.{slice_get_within}
use Rattle.log_model.specs.InstalledWrites.{map_after}
use Rattle.log_model.specs.declared.verdict.Verdict.{Verdict}
use Rattle.log_model.specs.Log.{Beginning, Setting, CertifiedItem, IsLog, verdict_of, history, rows_after, procedures_after}
use Rattle.log_model.specs.Fit.{BeginsSafely, AreItems}
use Rattle.log_model.specs.Entries.{Entry, CallEntry, AdditionEntry, items_of, CarryRuns, CertifiedEntries, none_certified, certified_entry, with_entry, certified_entries_of, installed_from}
use Rattle.schema.specs.Schema.{Tables}
use Rattle.key_table.specs.Table.{Table}
use Rattle.rows_mv.specs.Versions.{AnswersFrom, HaveTables, width_of}
use Rattle.catalogue.specs.Stored.{AreForTables, stored_procedures}
use Rattle.replica.specs.Delivery.{KeepsCertified}
use Rattle.certify.specs.declared.certification.Certification.{Certification}
use Rattle.replica.specs.Replica.{rows_kept, certification_next, certification_of, Replica, StandsFor, StandsIn, AreEntriesOf, HasSameTables}
use Rattle.replica.proofs.KeepsLemmas.{keeps_of}
use Rattle.replica.proofs.DeliveryLemmas.{get_left, get_end, same_some}

-- ---- what became of one of many entries

kept_there : (window : ℕ) (past : CertifiedEntries) (entries : List Entry) (i : ℕ) → i < length past.certified → slice_get (fold (with_entry window) past entries).certified i ≡ slice_get past.certified i
kept_there window past [] i lt = refl
kept_there window past (e ∷ entries) i lt =
    let one : length (with_entry window past e).certified ≡ length past.certified + 1 = length-append past.certified (certified_entry window past e ∷ []) in
    kept_there window (with_entry window past e) entries i (omega arith) ∙ get_left past.certified (certified_entry window past e ∷ []) i lt

certified_there : (window : ℕ) (past : CertifiedEntries) (entries : List Entry) (i : ℕ) (e : Entry) → slice_get entries i ≡ Some e
    → slice_get (fold (with_entry window) past entries).certified (length past.certified + i) ≡ Some (certified_entry window (fold (with_entry window) past (take i entries)) e)
certified_there window past [] i e at = let bad : None ≡ Some e = at in cc
certified_there window past (x ∷ entries) zero e at =
    let one : length (with_entry window past x).certified ≡ length past.certified + 1 = length-append past.certified (certified_entry window past x ∷ []) in
    kept_there window (with_entry window past x) entries (length past.certified + 0) (omega arith)
    ∙ get_end past.certified (certified_entry window past x) (length past.certified + 0) (omega arith)
    ∙ ap (λ (y : Entry). Some (certified_entry window past y)) (same_some x e at)
certified_there window past (x ∷ entries) (suc i) e at =
    let one : length (with_entry window past x).certified ≡ length past.certified + 1 = length-append past.certified (certified_entry window past x ∷ []) in
    let next : length past.certified + suc i ≡ length (with_entry window past x).certified + i = omega arith in
    ap (λ (n : ℕ). slice_get (fold (with_entry window) (with_entry window past x) entries).certified n) next
    ∙ certified_there window (with_entry window past x) entries i e at

certified_at : (window : ℕ) (base : Beginning) (entries : List Entry) (i : ℕ) (e : Entry) → slice_get entries i ≡ Some e
    → slice_get (certified_entries_of window base entries).certified i ≡ Some (certified_entry window (certified_entries_of window base (take i entries)) e)
unfolding certified_entries_of
certified_at window base entries i e at =
    let here : i ≡ 0 + i = omega arith in
    ap (λ (n : ℕ). slice_get (fold (with_entry window) (none_certified base) entries).certified n) here ∙ certified_there window (none_certified base) entries i e at

same_verdict : (window : ℕ) (past : CertifiedEntries) (e : Entry) → (certified_entry window past e).verdict ≡ (certification_next window past e).verdict
same_verdict window past (CallEntry e) = refl
same_verdict window past (AdditionEntry p) = refl

-- ---- the log

abbrev pub Suffice : Type 0
Suffice = (w : Setting) (entries : List Entry) → IsLog (items_of entries) → CarryRuns w entries → (certified_entries_of w.window w.beginning entries).certified ≡ (history w (items_of entries)).certified

verdict_there : Suffice → (w : Setting) (entries : List Entry) (i : ℕ) (e : Entry) → AreEntriesOf w entries → slice_get entries i ≡ Some e
    → verdict_of w (items_of entries) (i + 1) ≡ Some (certified_entry w.window (certified_entries_of w.window w.beginning (take i entries)) e).verdict
verdict_there law w entries i e are at =
    let next : i + 1 ≡ suc i = omega arith in
    ap (λ (n : ℕ). verdict_of w (items_of entries) n) next
    ∙ ap (λ (l : List CertifiedItem). option_map (λ (c : CertifiedItem). c.verdict) (slice_get l i)) (sym (law w entries are.log are.runs))
    ∙ ap (option_map (λ (c : CertifiedItem). c.verdict)) (certified_at w.window w.beginning entries i e at)

found : {X : Type 0} (xs : List X) (i : ℕ) → i < length xs → (x : X) × (slice_get xs i ≡ Some x)
found [] i lt = absurd (omega arith)
found (x ∷ xs) zero lt = (x, refl)
found (x ∷ xs) (suc i) lt = found xs i (omega arith)

pub verdicts_follow : Suffice → (w : Setting) (r : Replica) (entries : List Entry) (before : ℕ) (c : Certification) → w.window ≡ r.window → StandsFor w.beginning r entries → AreEntriesOf w entries
    → slice_get r.certifications before ≡ Some c → verdict_of w (items_of entries) (before + 1) ≡ Some c.verdict
verdicts_follow law w r entries before c window stands are at =
    let within = slice_get_within r.certifications before c at in
    let count = stands.certifications.count in
    let one = found entries before (omega arith) in
    let is : certification_of r.window w.beginning entries before one.0 ≡ c = same_some (certification_of r.window w.beginning entries before one.0) c (sym (stands.certifications.each before one.0 one.1) ∙ at) in
    verdict_there law w entries before one.0 are one.1
    ∙ ap (λ (v : Verdict). Some v) (same_verdict w.window (certified_entries_of w.window w.beginning (take before entries)) one.0)
    ∙ ap (λ (n : ℕ). Some (certification_next n (certified_entries_of n w.beginning (take before entries)) one.0).verdict) window
    ∙ ap (λ (x : Certification). Some x.verdict) is

pub rows_follow : ((w : Setting) (entries : List Entry) (position : ℕ) → BeginsSafely w → IsLog (items_of entries) → AreItems w (items_of entries) → CarryRuns w entries → position ≤ length entries
    → map_after w.beginning.rows (installed_from 1 (certified_entries_of w.window w.beginning entries).certified) position ≡ rows_after w (items_of entries) position)
    → (w : Setting) (r : Replica) (entries : List Entry) (s : ℕ) → w.window ≡ r.window → StandsFor w.beginning r entries → AreEntriesOf w entries → s ≤ r.position → r.position - s ≤ r.window
    → AnswersFrom r.versions.tables s (rows_after w (items_of entries) s)
rows_follow law w r entries s window stands are le near =
    let position = stands.position in
    subst (AnswersFrom r.versions.tables s)
    (ap (λ (n : ℕ). rows_kept n w.beginning entries s) (sym window) ∙ law w entries s are.begins are.log are.items are.runs (omega arith))
    (stands.rows s near)

pub next_follows : Suffice → (w : Setting) (entries : List Entry) (e : Entry) → AreEntriesOf w (entries ++ e ∷ [])
    → verdict_of w (items_of (entries ++ e ∷ [])) (length entries + 1) ≡ Some (certified_entry w.window (certified_entries_of w.window w.beginning entries) e).verdict
next_follows law w entries e are =
    let all : take (length entries) (entries ++ e ∷ []) ≡ entries = take-append-le (length entries) entries (e ∷ []) (omega arith) ∙ take_all (length entries) entries (omega arith) in
    verdict_there law w (entries ++ e ∷ []) (length entries) e are (get_end entries e (length entries) refl)
    ∙ ap (λ (l : List Entry). Some (certified_entry w.window (certified_entries_of w.window w.beginning l) e).verdict) all

pub procedures_follow : ((w : Setting) (entries : List Entry) → IsLog (items_of entries) → CarryRuns w entries → (certified_entries_of w.window w.beginning entries).procedures ≡ procedures_after w (items_of entries) (length entries))
    → (w : Setting) (r : Replica) (entries : List Entry) → w.window ≡ r.window → StandsFor w.beginning r entries → AreEntriesOf w entries → stored_procedures r.procedures ≡ procedures_after w (items_of entries) r.position
procedures_follow law w r entries window stands are =
    stands.procedures ∙ ap (λ (n : ℕ). (certified_entries_of n w.beginning entries).procedures) (sym window)
    ∙ law w entries are.log are.runs ∙ ap (procedures_after w (items_of entries)) (sym stands.position)

-- ---- one delivery

-- the replica stands for these now, and its tables are the same
pub stands_after : ((schema : Tables) (old new : List Table) → ((t : ℕ) → width_of new t ≡ width_of old t) → length new ≡ length old → HaveTables schema old → HaveTables schema new)
    → (w : Setting) (old new : Replica) (past after : List Entry) → StandsIn w old past → (StandsFor w.beginning old past → StandsFor w.beginning new after) → HasSameTables old new → (AreForTables w.tables old.procedures → AreForTables w.tables new.procedures)
    → StandsIn w new after
stands_after kept w old new past after is stands same procedures = record {
  delivered = stands is.delivered;
  window = same.window ∙ is.window;
  tables = kept w.tables old.versions.tables new.versions.tables same.widths same.count is.tables;
  procedures = procedures is.procedures;
}

-- the verdict is that of the entries for which the replica stood
pub delivered_by : (base : Beginning) (old : Replica) (entries : List Entry) (e : Entry) (c : Certification)
    → ((past : CertifiedEntries) → KeepsCertified old.memory old.procedures past → c ≡ certification_next old.memory.window past e)
    → StandsFor base old entries → c.verdict ≡ (certified_entry old.window (certified_entries_of old.window base entries) e).verdict
delivered_by base old entries e c certified stands =
    let past = certified_entries_of old.window base entries in
    ap (λ (x : Certification). x.verdict) (certified past (keeps_of old.memory old.procedures old.window base entries stands.memory stands.procedures))
    ∙ ap (λ (n : ℕ). (certification_next n past e).verdict) stands.window
    ∙ sym (same_verdict old.window past e)

pub delivered_verdict : ((w : Setting) (entries : List Entry) (e : Entry) → AreEntriesOf w (entries ++ e ∷ []) → verdict_of w (items_of (entries ++ e ∷ [])) (length entries + 1) ≡ Some (certified_entry w.window (certified_entries_of w.window w.beginning entries) e).verdict)
    → (w : Setting) (old : Replica) (entries : List Entry) (e : Entry) (c : Certification) → ((past : CertifiedEntries) → KeepsCertified old.memory old.procedures past → c ≡ certification_next old.memory.window past e)
    → w.window ≡ old.window → StandsFor w.beginning old entries → AreEntriesOf w (entries ++ e ∷ []) → verdict_of w (items_of (entries ++ e ∷ [])) (old.position + 1) ≡ Some c.verdict
delivered_verdict law w old entries e c certified window stands are =
    ap (λ (n : ℕ). verdict_of w (items_of (entries ++ e ∷ [])) (n + 1)) stands.position
    ∙ law w entries e are
    ∙ ap (λ (n : ℕ). Some (certified_entry n (certified_entries_of n w.beginning entries) e).verdict) window
    ∙ ap (λ (v : Verdict). Some v) (sym (delivered_by w.beginning old entries e c certified stands))
