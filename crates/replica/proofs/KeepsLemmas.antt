-- What one more entry changes.
use Rattle.std.proofs.Common.{◌≡◌, ℕ, suc, ◌+◌, ◌≤◌, ◌<◌, Option, List, [], ◌∷◌, ◌++◌, length, refl, ap, ◌∙◌, arith, subst, sym}
use Rattle.std.specs.Prelude.{if◌then◌else◌}
use Rattle.std.specs.List.{fold}
use Rattle.std.proofs.lemmas.List.{length-append, append-nil}
use Rattle.std.proofs.lemmas.List.Sums.{fold-append}
use Rattle.std.specs.FinMap.{empty}
use Rattle.schema.specs.Rows.{Rows, Writes, after_writes}
use Rattle.log_model.specs.InstalledWrites.{InstalledWrites, map_after}
use Rattle.log_model.specs.declared.request.RequestId.{RequestId}
use Rattle.log_model.specs.declared.verdict.Verdict.{Verdict}
use Rattle.log_model.specs.declared.verdict.Verdict.TheVariants.{Commit, Conflict, Stale, Repeated, Taken}
use Rattle.log_model.specs.Log.{Beginning, CertifiedItem, is_commit, if_commits}
use Rattle.log_model.specs.Entries.{Entry, CertifiedEntries, none_certified, certified_entry, with_entry, certified_entries_of, installed_from}
use Rattle.catalogue.specs.Stored.{ListedProcedure, stored_procedures}
use Rattle.certify.specs.Kept as certifier
use Rattle.replica.specs.Replica.{rows_kept}
use Rattle.replica.specs.Delivery.{KeepsCertified}

-- ---- the certified calls of one entry more

pub certified_more : (window : ℕ) (base : Beginning) (entries : List Entry) (e : Entry) → certified_entries_of window base (entries ++ e ∷ []) ≡ with_entry window (certified_entries_of window base entries) e
unfolding certified_entries_of
certified_more window base entries e = fold-append (with_entry window) (none_certified base) entries (e ∷ [])

pub count_fold : (window : ℕ) (entries : List Entry) (past : CertifiedEntries) → length (fold (with_entry window) past entries).certified ≡ length past.certified + length entries
count_fold window [] past = omega arith
count_fold window (e ∷ entries) past =
    let one : length (with_entry window past e).certified ≡ length past.certified + 1 = length-append past.certified (certified_entry window past e ∷ []) in
    let rest = count_fold window entries (with_entry window past e) in
    omega arith

pub certified_count : (window : ℕ) (base : Beginning) (entries : List Entry) → length (certified_entries_of window base entries).certified ≡ length entries
unfolding certified_entries_of
certified_count window base entries = count_fold window entries (none_certified base) ∙ omega arith

-- ---- the requests that were done before the entries

done_fold : (window : ℕ) (entries : List Entry) (past : CertifiedEntries) → (fold (with_entry window) past entries).done ≡ past.done
done_fold window [] past = refl
done_fold window (e ∷ entries) past = done_fold window entries (with_entry window past e)

pub done_stays : (window : ℕ) (base : Beginning) (entries : List Entry) → (certified_entries_of window base entries).done ≡ base.requests
unfolding certified_entries_of
done_stays window base entries = done_fold window entries (none_certified base)

-- what a replica keeps for verdicts, of the entries after a beginning
pub keeps_of : (m : certifier.Memory) (held : List ListedProcedure) (window : ℕ) (base : Beginning) (entries : List Entry)
    → certifier.IsMemoryOf m base.requests (certified_entries_of window base entries).certified → stored_procedures held ≡ (certified_entries_of window base entries).procedures
    → KeepsCertified m held (certified_entries_of window base entries)
keeps_of m held window base entries memory procedures = record {
  memory = subst (λ done. certifier.IsMemoryOf m done (certified_entries_of window base entries).certified) (sym (done_stays window base entries)) memory;
  procedures = procedures;
}

pub memory_of : (m : certifier.Memory) (held : List ListedProcedure) (window : ℕ) (base : Beginning) (entries : List Entry)
    → KeepsCertified m held (certified_entries_of window base entries) → certifier.IsMemoryOf m base.requests (certified_entries_of window base entries).certified
memory_of m held window base entries keeps =
    subst (λ done. certifier.IsMemoryOf m done (certified_entries_of window base entries).certified) (done_stays window base entries) keeps.memory

-- ---- the installed writes of one call more

-- of the call at a position
abbrev one_installed : ℕ → CertifiedItem → List InstalledWrites
one_installed position c = if is_commit c.verdict then record { position = position; writes = c.writes } ∷ [] else []

append_assoc : {X : Type 0} (xs ys zs : List X) → xs ++ (ys ++ zs) ≡ xs ++ ys ++ zs
append_assoc [] ys zs = refl
append_assoc (x ∷ xs) ys zs = ap (λ l. x ∷ l) (append_assoc xs ys zs)

installed_more : (p : ℕ) (past : List CertifiedItem) (c : CertifiedItem) → installed_from p (past ++ c ∷ []) ≡ installed_from p past ++ one_installed (p + length past) c
unfolding installed_from
installed_more p [] c = append-nil (one_installed p c) ∙ ap (λ (n : ℕ). one_installed n c) (omega arith)
installed_more p (x ∷ past) c =
    ap (λ (l : List InstalledWrites). one_installed p x ++ l) (installed_more (p + 1) past c ∙ ap (λ (n : ℕ). installed_from (p + 1) past ++ one_installed n c) (omega arith))
    ∙ append_assoc (one_installed p x) (installed_from (p + 1) past) (one_installed (p + length (x ∷ past)) c)

-- the rows after a position by those at first and the certified calls
abbrev rows_by : Rows → List CertifiedItem → ℕ → Rows
rows_by rows past s = map_after rows (installed_from 1 past) s

by_more : (rows : Rows) (past : List CertifiedItem) (c : CertifiedItem) (s : ℕ) → rows_by rows (past ++ c ∷ []) s ≡ map_after rows (installed_from 1 past ++ one_installed (1 + length past) c) s
by_more rows past c s = ap (λ (l : List InstalledWrites). map_after rows l s) (installed_more 1 past c)

-- the laws of one more write set
pub record LaysOn : Type 0 where
  pub later : (rows : Rows) (installed : List InstalledWrites) (next : InstalledWrites) (position : ℕ) → next.position ≤ position → map_after rows (installed ++ next ∷ []) position ≡ after_writes next.writes (map_after rows installed position)
  pub before : (rows : Rows) (installed : List InstalledWrites) (next : InstalledWrites) (position : ℕ) → position < next.position → map_after rows (installed ++ next ∷ []) position ≡ map_after rows installed position

later_by : LaysOn → (rows : Rows) (past : List CertifiedItem) (request : Option RequestId) (writes : Writes) (verdict : Verdict) (s : ℕ) → suc (length past) ≤ s
    → rows_by rows (past ++ record { request = request; writes = writes; verdict = verdict } ∷ []) s ≡ if_commits verdict (after_writes writes (rows_by rows past s)) (rows_by rows past s)
later_by law rows past request writes Commit s le = by_more rows past (record { request = request; writes = writes; verdict = Commit }) s ∙ law.later rows (installed_from 1 past) (record { position = 1 + length past; writes = writes }) s (omega arith)
later_by law rows past request writes (Conflict position) s le = by_more rows past (record { request = request; writes = writes; verdict = Conflict position }) s ∙ ap (λ (l : List InstalledWrites). map_after rows l s) (append-nil (installed_from 1 past))
later_by law rows past request writes Stale s le = by_more rows past (record { request = request; writes = writes; verdict = Stale }) s ∙ ap (λ (l : List InstalledWrites). map_after rows l s) (append-nil (installed_from 1 past))
later_by law rows past request writes (Repeated position) s le = by_more rows past (record { request = request; writes = writes; verdict = Repeated position }) s ∙ ap (λ (l : List InstalledWrites). map_after rows l s) (append-nil (installed_from 1 past))
later_by law rows past request writes (Taken part) s le = by_more rows past (record { request = request; writes = writes; verdict = Taken part }) s ∙ ap (λ (l : List InstalledWrites). map_after rows l s) (append-nil (installed_from 1 past))

before_by : LaysOn → (rows : Rows) (past : List CertifiedItem) (request : Option RequestId) (writes : Writes) (verdict : Verdict) (s : ℕ) → s ≤ length past
    → rows_by rows (past ++ record { request = request; writes = writes; verdict = verdict } ∷ []) s ≡ rows_by rows past s
before_by law rows past request writes Commit s le = by_more rows past (record { request = request; writes = writes; verdict = Commit }) s ∙ law.before rows (installed_from 1 past) (record { position = 1 + length past; writes = writes }) s (omega arith)
before_by law rows past request writes (Conflict position) s le = by_more rows past (record { request = request; writes = writes; verdict = Conflict position }) s ∙ ap (λ (l : List InstalledWrites). map_after rows l s) (append-nil (installed_from 1 past))
before_by law rows past request writes Stale s le = by_more rows past (record { request = request; writes = writes; verdict = Stale }) s ∙ ap (λ (l : List InstalledWrites). map_after rows l s) (append-nil (installed_from 1 past))
before_by law rows past request writes (Repeated position) s le = by_more rows past (record { request = request; writes = writes; verdict = Repeated position }) s ∙ ap (λ (l : List InstalledWrites). map_after rows l s) (append-nil (installed_from 1 past))
before_by law rows past request writes (Taken part) s le = by_more rows past (record { request = request; writes = writes; verdict = Taken part }) s ∙ ap (λ (l : List InstalledWrites). map_after rows l s) (append-nil (installed_from 1 past))

-- ---- the rows of one entry more

abbrev pub next_item : ℕ → Beginning → List Entry → Entry → CertifiedItem
next_item window base entries e = certified_entry window (certified_entries_of window base entries) e

pub rows_later : LaysOn → (window s : ℕ) (base : Beginning) (entries : List Entry) (e : Entry) → suc (length entries) ≤ s
    → rows_kept window base (entries ++ e ∷ []) s ≡ if_commits (next_item window base entries e).verdict (after_writes (next_item window base entries e).writes (rows_kept window base entries s)) (rows_kept window base entries s)
rows_later law window s base entries e le =
    let count = certified_count window base entries in
    let c = next_item window base entries e in
    ap (λ (x : CertifiedEntries). rows_by base.rows x.certified s) (certified_more window base entries e)
    ∙ later_by law base.rows (certified_entries_of window base entries).certified (next_item window base entries e).request (next_item window base entries e).writes (next_item window base entries e).verdict s (omega arith)

pub rows_before : LaysOn → (window s : ℕ) (base : Beginning) (entries : List Entry) (e : Entry) → s ≤ length entries → rows_kept window base (entries ++ e ∷ []) s ≡ rows_kept window base entries s
rows_before law window s base entries e le =
    let count = certified_count window base entries in
    ap (λ (x : CertifiedEntries). rows_by base.rows x.certified s) (certified_more window base entries e)
    ∙ before_by law base.rows (certified_entries_of window base entries).certified (next_item window base entries e).request (next_item window base entries e).writes (next_item window base entries e).verdict s (omega arith)

pub rows_none : ((rows : Rows) (position : ℕ) → map_after rows [] position ≡ rows) → (window s : ℕ) (base : Beginning) → rows_kept window base [] s ≡ base.rows
unfolding certified_entries_of installed_from
rows_none none window s base = none base.rows s
