-- A replica goes on standing for what it delivered.
use Rattle.std.proofs.Common.{◌≡◌, ℕ, zero, suc, ◌+◌, ◌≤◌, ◌<◌, true, false, List, [], ◌∷◌, ◌++◌, length, take, slice_get, refl, sym, ap, subst, ◌∙◌, arith, inl, inr}
use Rattle.std.specs.Prelude.{Some, None}
use Rattle.std.proofs.lemmas.List.{take-append-le, take_all, length-append}
use Rattle.std.proofs.lemmas.Option.{slice_get_within}
use Rattle.std.proofs.lemmas.Bool.{cases_lt}
use Rattle.schema.specs.Rows.{Rows, Writes, after_writes}
use Rattle.row_chain.specs.Version.{row_up_to}
use Rattle.key_table.specs.Table.{Table}
use Rattle.std.specs.FinMap.{empty}
use Rattle.rows_mv.specs.Versions.{AnswersFrom, AreEmpty, IsInstalled}
use Rattle.log_model.specs.declared.verdict.Verdict.{Verdict}
use Rattle.log_model.specs.declared.verdict.Verdict.TheVariants.{Commit, Conflict, Stale, Repeated, Taken}
use Rattle.log_model.specs.Log.{Beginning, is_commit, if_commits}
use Rattle.log_model.specs.Entries.{Entry, CallEntry, AdditionEntry, CertifiedEntries, certified_entry, with_entry, certified_entries_of}
use Rattle.catalogue.specs.Catalogue.{SystemCatalogue, beginning_of}
use Rattle.catalogue.specs.Stored.{stored_procedures}
use Rattle.certify.specs.Kept as certifier
use Rattle.certify.specs.declared.certification.Certification.{Certification}
use Rattle.replica.specs.Replica.{rows_kept, KeepsRows, certification_next, AreCertificationsOf, Replica, StandsFor, writes_in}
use Rattle.replica.specs.Delivery.{HasSameVersions, KeepsCertified, IsDelivered, IsRefusedDelivery}
use Rattle.replica.proofs.KeepsLemmas.{LaysOn, certified_more, keeps_of, memory_of, next_item, rows_later, rows_before}

-- the laws of one more install
pub record Installs : Type 0 where
  pub after : (s p : ℕ) (writes : Writes) (old new : List Table) (rows : Rows) → IsInstalled p writes old new → p ≤ s → AnswersFrom old s rows → AnswersFrom new s (after_writes writes rows)
  pub before : (s p : ℕ) (writes : Writes) (old new : List Table) (rows : Rows) → IsInstalled p writes old new → s < p → AnswersFrom old s rows → AnswersFrom new s rows

-- ---- the rows

pub same_answers : (old new : List Table) (s : ℕ) (rows : Rows) → HasSameVersions old new → AnswersFrom old s rows → AnswersFrom new s rows
same_answers old new s rows same from k = ap (row_up_to s) (same k) ∙ from k

moved : (tables : List Table) (s : ℕ) (m n : Rows) → m ≡ n → AnswersFrom tables s n → AnswersFrom tables s m
moved tables s m n same from = subst (AnswersFrom tables s) (sym same) from

-- where the next position sees an entry of some verdict
laid_on : Installs → (old new : List Table) (position s : ℕ) (writes : Writes) (v : Verdict) (rows : Rows) → position + 1 ≤ s
    → (is_commit v ≡ true → IsInstalled (position + 1) writes old new) → (is_commit v ≡ false → HasSameVersions old new)
    → AnswersFrom old s rows → AnswersFrom new s (if_commits v (after_writes writes rows) rows)
laid_on law old new position s writes Commit rows le installs refuses from = law.after s (position + 1) writes old new rows (installs refl) le from
laid_on law old new position s writes (Conflict at) rows le installs refuses from = same_answers old new s rows (refuses refl) from
laid_on law old new position s writes Stale rows le installs refuses from = same_answers old new s rows (refuses refl) from
laid_on law old new position s writes (Repeated at) rows le installs refuses from = same_answers old new s rows (refuses refl) from
laid_on law old new position s writes (Taken part) rows le installs refuses from = same_answers old new s rows (refuses refl) from

-- and where it doesn't
left_out : Installs → (old new : List Table) (position s : ℕ) (writes : Writes) (v : Verdict) (rows : Rows) → s < position + 1
    → (is_commit v ≡ true → IsInstalled (position + 1) writes old new) → (is_commit v ≡ false → HasSameVersions old new)
    → AnswersFrom old s rows → AnswersFrom new s rows
left_out law old new position s writes Commit rows lt installs refuses from = law.before s (position + 1) writes old new rows (installs refl) lt from
left_out law old new position s writes (Conflict at) rows lt installs refuses from = same_answers old new s rows (refuses refl) from
left_out law old new position s writes Stale rows lt installs refuses from = same_answers old new s rows (refuses refl) from
left_out law old new position s writes (Repeated at) rows lt installs refuses from = same_answers old new s rows (refuses refl) from
left_out law old new position s writes (Taken part) rows lt installs refuses from = same_answers old new s rows (refuses refl) from

-- what becomes of an entry has its writes, and its certification's verdict
same_writes : (window : ℕ) (past : CertifiedEntries) (e : Entry) → (certified_entry window past e).writes ≡ writes_in e
same_writes window past (CallEntry e) = refl
same_writes window past (AdditionEntry p) = refl

same_verdict : (window : ℕ) (past : CertifiedEntries) (e : Entry) → (certification_next window past e).verdict ≡ (certified_entry window past e).verdict
same_verdict window past (CallEntry e) = refl
same_verdict window past (AdditionEntry p) = refl

next_answers : LaysOn → Installs → (old new : List Table) (window position s : ℕ) (base : Beginning) (entries : List Entry) (e : Entry) → position ≡ length entries
    → (is_commit (next_item window base entries e).verdict ≡ true → IsInstalled (position + 1) (next_item window base entries e).writes old new)
    → (is_commit (next_item window base entries e).verdict ≡ false → HasSameVersions old new)
    → AnswersFrom old s (rows_kept window base entries s) → AnswersFrom new s (rows_kept window base (entries ++ e ∷ []) s)
next_answers lays law old new window position s base entries e at installs refuses from =
    elim (cases_lt (length entries) s) [
      | inl lt ↦ moved new s (rows_kept window base (entries ++ e ∷ []) s) _ (rows_later lays window s base entries e (omega arith))
          (laid_on law old new position s (next_item window base entries e).writes (next_item window base entries e).verdict (rows_kept window base entries s) (omega arith) installs refuses from)
      | inr ge ↦ moved new s (rows_kept window base (entries ++ e ∷ []) s) _ (rows_before lays window s base entries e (omega arith))
          (left_out law old new position s (next_item window base entries e).writes (next_item window base entries e).verdict (rows_kept window base entries s) (omega arith) installs refuses from)
    ]

-- ---- the certifications

pub get_left : {X : Type 0} (xs ys : List X) (i : ℕ) → i < length xs → slice_get (xs ++ ys) i ≡ slice_get xs i
get_left [] ys i lt = absurd (omega arith)
get_left (x ∷ xs) ys zero lt = refl
get_left (x ∷ xs) ys (suc i) lt = get_left xs ys i (omega arith)

pub get_end : {X : Type 0} (xs : List X) (y : X) (i : ℕ) → i ≡ length xs → slice_get (xs ++ y ∷ []) i ≡ Some y
get_end [] y zero is = refl
get_end [] y (suc i) is = absurd (omega arith)
get_end (x ∷ xs) y zero is = absurd (omega arith)
get_end (x ∷ xs) y (suc i) is = get_end xs y i (omega arith)

pub same_some : {X : Type 0} (x y : X) → Some x ≡ Some y → x ≡ y
same_some x y is = cc

certifications_more : (window : ℕ) (base : Beginning) (entries : List Entry) (e : Entry) (certifications : List Certification) (c : Certification)
    → AreCertificationsOf window base entries certifications → c ≡ certification_next window (certified_entries_of window base entries) e
    → AreCertificationsOf window base (entries ++ e ∷ []) (certifications ++ c ∷ [])
certifications_more window base entries e certifications c are is =
    let more : length (entries ++ e ∷ []) ≡ length entries + 1 = length-append entries (e ∷ []) in
    let count : length (certifications ++ c ∷ []) ≡ length certifications + 1 = length-append certifications (c ∷ []) in
    let same = are.count in
    record {
      count = omega arith;
      each = λ before x at.
          let within = slice_get_within (entries ++ e ∷ []) before x at in
          elim (cases_lt before (length entries)) [
            | inl lt ↦ get_left certifications (c ∷ []) before (omega arith)
                ∙ are.each before x (sym (get_left entries (e ∷ []) before lt) ∙ at)
                ∙ ap (λ (l : List Entry). Some (certification_next window (certified_entries_of window base l) x)) (sym (take-append-le before entries (e ∷ []) (omega arith)))
            | inr ge ↦
                let last : e ≡ x = same_some e x (sym (get_end entries e before (omega arith)) ∙ at) in
                let all : take before (entries ++ e ∷ []) ≡ entries = take-append-le before entries (e ∷ []) (omega arith) ∙ take_all before entries (omega arith) in
                get_end certifications c before (omega arith)
                ∙ ap (λ (y : Certification). Some y) is
                ∙ ap (λ (y : Entry). Some (certification_next window (certified_entries_of window base entries) y)) last
                ∙ ap (λ (l : List Entry). Some (certification_next window (certified_entries_of window base l) x)) (sym all)
          ];
    }

-- ---- the replica

pub delivered : LaysOn → Installs → (base : Beginning) (old new : Replica) (e : Entry) (c : Certification) (installed : List Table) (entries : List Entry) → IsDelivered old new e c installed → StandsFor base old entries → StandsFor base new (entries ++ e ∷ [])
delivered lays law base old new e c installed entries is stands =
    let at = stands.position in
    let next = is.position in
    let more : length (entries ++ e ∷ []) ≡ length entries + 1 = length-append entries (e ∷ []) in
    let past = certified_entries_of old.window base entries in
    let before : KeepsCertified old.memory old.procedures past = keeps_of old.memory old.procedures old.window base entries stands.memory stands.procedures in
    let certified : c ≡ certification_next old.window past e =
    is.certified past before ∙ ap (λ (w : ℕ). certification_next w past e) stands.window in
    let verdict : c.verdict ≡ (next_item old.window base entries e).verdict = ap (λ (x : Certification). x.verdict) certified ∙ same_verdict old.window past e in
    let writes : writes_in e ≡ (next_item old.window base entries e).writes = sym (same_writes old.window past e) in
    let window = is.window in
    let same = sym is.window in
    let all = entries ++ e ∷ [] in
    let keeps : KeepsRows old.window base new.versions all new.position =
    (λ s near. is.pruned s (rows_kept old.window base all s) (omega arith)
    (next_answers lays law old.versions.tables installed old.window old.position s base entries e at
    (λ commits. subst (λ (w : Writes). IsInstalled (old.position + 1) w old.versions.tables installed) writes (is.installs (ap is_commit verdict ∙ commits))) (λ refuses. is.refuses (ap is_commit verdict ∙ refuses))
    (stands.rows s (omega arith)))) in
    let kept : KeepsCertified new.memory new.procedures (certified_entries_of old.window base all) =
    subst (KeepsCertified new.memory new.procedures) (ap (λ (w : ℕ). with_entry w past e) stands.window ∙ sym (certified_more old.window base entries e)) (is.kept past before) in
    record {
      position = omega arith;
      window = is.same_window ∙ stands.window ∙ same;
      memory = subst (λ (w : ℕ). certifier.IsMemoryOf new.memory base.requests (certified_entries_of w base all).certified) same (memory_of new.memory new.procedures old.window base all kept);
      horizon = is.horizon;
      rows = subst (λ (w : ℕ). KeepsRows w base new.versions all new.position) same keeps;
      certifications = subst (λ (w : ℕ). AreCertificationsOf w base all new.certifications) same
          (subst (AreCertificationsOf old.window base all) (sym is.certifications) (certifications_more old.window base entries e old.certifications c stands.certifications certified));
      procedures = subst (λ (w : ℕ). stored_procedures new.procedures ≡ (certified_entries_of w base all).procedures) same kept.procedures;
    }

pub refused : (base : Beginning) (old new : Replica) (entries : List Entry) → IsRefusedDelivery old new → StandsFor base old entries → StandsFor base new entries
refused base old new entries is stands =
    let position = is.position in
    let window = is.window in
    let same = sym is.window in
    let horizon = stands.horizon in
    let now = is.horizon in
    let keeps : KeepsRows old.window base new.versions entries new.position =
    (λ s near. same_answers old.versions.tables new.versions.tables s (rows_kept old.window base entries s) is.versions (stands.rows s (omega arith))) in
    record {
      position = is.position ∙ stands.position;
      window = ap (λ (m : certifier.Memory). m.window) is.memory ∙ stands.window ∙ same;
      memory = subst (λ (w : ℕ). certifier.IsMemoryOf new.memory base.requests (certified_entries_of w base entries).certified) same (subst (λ (m : certifier.Memory). certifier.IsMemoryOf m base.requests (certified_entries_of old.window base entries).certified) (sym is.memory) stands.memory);
      horizon = omega arith;
      rows = subst (λ (w : ℕ). KeepsRows w base new.versions entries new.position) same keeps;
      certifications = subst (λ (w : ℕ). AreCertificationsOf w base entries new.certifications) same (subst (AreCertificationsOf old.window base entries) (sym is.certifications) stands.certifications);
      procedures = subst (λ (w : ℕ). stored_procedures new.procedures ≡ (certified_entries_of w base entries).procedures) same (ap stored_procedures is.procedures ∙ stands.procedures);
    }

-- at first
pub stands_at_first : (catalogue : SystemCatalogue) (r : Replica) → ((window s : ℕ) (base : Beginning) → rows_kept window base [] s ≡ base.rows)
    → r.position ≡ 0 → r.memory.window ≡ r.window → certifier.IsMemoryOf r.memory catalogue.requests [] → r.versions.horizon ≡ 0 → ((s : ℕ) → AnswersFrom r.versions.tables s catalogue.rows) → r.certifications ≡ []
    → stored_procedures r.procedures ≡ catalogue.procedures
    → StandsFor (beginning_of catalogue) r []
unfolding certified_entries_of
stands_at_first catalogue r rows position window memory horizon answers certifications procedures = record {
  position = position;
  window = window;
  memory = memory;
  horizon = omega arith;
  rows = λ s near. moved r.versions.tables s (rows_kept r.window (beginning_of catalogue) [] s) catalogue.rows (rows r.window s (beginning_of catalogue)) (answers s);
  certifications = record {
    count = ap (λ (l : List Certification). length l) certifications;
    each = λ before e at. let bad : None ≡ Some e = at in cc;
  };
  procedures = procedures;
}
