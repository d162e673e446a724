-- One more entry behind those of an order's log.
use Rattle.std.proofs.Common.{◌≡◌, ℕ, suc, ◌+◌, ◌≤◌, List, [], ◌∷◌, ◌++◌, length, slice_get, option_map, Some, refl, sym, ap, subst, ◌∙◌, arith}
use Rattle.std.proofs.lemmas.List.{length-map, map-append}
use Rattle.std.proofs.lemmas.List.Sums.{fold-append}
use Rattle.log_model.specs.InstalledWrites.{map_after}
use Rattle.log_model.specs.Log.{Beginning, CertifiedItem, Setting, Item, Log, IsLog, IsPlaced, history, rows_after, verdict_of}
use Rattle.log_model.specs.Fit.{AllFitLog, FitsLog, BeginsSafely}
use Rattle.log_model.specs.Entries.{Entry, item_of, items_of, CarryRuns, CertifiedEntries, none_certified, IsCarried, certified_entry, certified_entries_of, installed_from, with_entry}
use Rattle.log_model.proofs.CallLemmas.{count_history}
use Rattle.log_model.proofs.GrowthLemmas.{is_log_snoc}
use Rattle.site_model.specs.Fit.{AreFitEntries}

-- what the laws of the log say
abbrev pub OneMoreFits : Type 0
OneMoreFits = (w : Setting) (log : Log) (item : Item) → IsLog log → AllFitLog w log → IsPlaced (length log) item → FitsLog w log item → AllFitLog w (log ++ item ∷ [])

abbrev pub OneMoreCarries : Type 0
OneMoreCarries = (w : Setting) (entries : List Entry) (e : Entry) → IsLog (items_of entries) → CarryRuns w entries → IsPlaced (length entries) (item_of e) → IsCarried w (items_of entries) e → CarryRuns w (entries ++ e ∷ [])

abbrev pub VerdictsSuffice : Type 0
VerdictsSuffice = (w : Setting) (entries : List Entry) → IsLog (items_of entries) → CarryRuns w entries → (certified_entries_of w.window w.beginning entries).certified ≡ (history w (items_of entries)).certified

abbrev pub RowsInstalled : Type 0
RowsInstalled = (w : Setting) (log : Log) (position : ℕ) → BeginsSafely w → IsLog log → AllFitLog w log → position ≤ length log → map_after w.beginning.rows (installed_from 1 (history w log).certified) position ≡ rows_after w log position

module _ (w : Setting) (entries : List Entry) where
  pub one_more : OneMoreFits → OneMoreCarries → (e : Entry) → AreFitEntries w entries → IsPlaced (length entries) (item_of e) → FitsLog w (items_of entries) (item_of e) → IsCarried w (items_of entries) e → AreFitEntries w (entries ++ e ∷ [])
  one_more fits carries e are placed fit carried =
      let items = sym (map-append item_of entries (e ∷ [])) in
      let long = length-map entries item_of in
      record {
        begins = are.begins;
        log = subst IsLog items (is_log_snoc 0 (items_of entries) (item_of e) are.log (subst (λ (n : ℕ). IsPlaced n (item_of e)) (let same : length entries ≡ 0 + length (items_of entries) = omega arith in same) placed));
        items = subst (λ (l : Log). AllFitLog w l) items (fits w (items_of entries) (item_of e) are.log are.items (subst (λ (n : ℕ). IsPlaced n (item_of e)) (sym long) placed) fit);
        runs = carries w entries e are.log are.runs placed carried;
      }

  pub rows_are : VerdictsSuffice → RowsInstalled → (position : ℕ) → AreFitEntries w entries → position ≤ length entries → map_after w.beginning.rows (installed_from 1 (certified_entries_of w.window w.beginning entries).certified) position ≡ rows_after w (items_of entries) position
  rows_are verdicts installed position are le =
      let long = length-map entries item_of in
      ap (λ (past : List CertifiedItem). map_after w.beginning.rows (installed_from 1 past) position) (verdicts w entries are.log are.runs)
      ∙ installed w (items_of entries) position are.begins are.log are.items (omega arith)

there : {X : Type 0} (xs : List X) (x : X) → slice_get (xs ++ x ∷ []) (length xs) ≡ Some x
there [] x = refl
there (y ∷ xs) x = there xs x

certified_snoc : (window : ℕ) (base : Beginning) (xs : List Entry) (e : Entry) → certified_entries_of window base (xs ++ e ∷ []) ≡ with_entry window (certified_entries_of window base xs) e
unfolding certified_entries_of
certified_snoc window base xs e = fold-append (with_entry window) (none_certified base) xs (e ∷ [])

pub next_verdict : VerdictsSuffice → (w : Setting) (entries : List Entry) (e : Entry) → AreFitEntries w entries → AreFitEntries w (entries ++ e ∷ []) → verdict_of w (items_of (entries ++ e ∷ [])) (length entries + 1) ≡ Some (certified_entry w.window (certified_entries_of w.window w.beginning entries) e).verdict
next_verdict law w entries e before are =
    let past = certified_entries_of w.window w.beginning entries in
    let next : length entries + 1 ≡ suc (length entries) = omega arith in
    let count : length entries ≡ length past.certified =
    sym (ap length (law w entries before.log before.runs) ∙ count_history w (items_of entries) ∙ length-map entries item_of) in
    ap (λ (n : ℕ). verdict_of w (items_of (entries ++ e ∷ [])) n) next
    ∙ ap (λ (l : List CertifiedItem). option_map (λ (c : CertifiedItem). c.verdict) (slice_get l (length entries)))
    (sym (law w (entries ++ e ∷ []) are.log are.runs) ∙ ap (λ (c : CertifiedEntries). c.certified) (certified_snoc w.window w.beginning entries e))
    ∙ ap (λ (n : ℕ). option_map (λ (c : CertifiedItem). c.verdict) (slice_get (past.certified ++ certified_entry w.window past e ∷ []) n)) count
    ∙ ap (option_map (λ (c : CertifiedItem). c.verdict)) (there past.certified (certified_entry w.window past e))
