-- What a delivery leaves: what the log says of one position more.
use Rattle.std.proofs.Common.{◌≡◌, ℕ, zero, suc, ◌+◌, ◌≤◌, List, [], ◌∷◌, ◌++◌, length, take, slice_get, fold, option_map, refl, sym, ap, subst, ◌∙◌, arith, append_assoc}
use Rattle.std.specs.List.{AllByRecursion}
use Rattle.std.proofs.lemmas.List.{length-append, take-append-le}
use Rattle.std.proofs.lemmas.Option.{slice_get-map}
use Rattle.schema.specs.Rows.{Rows, Writes, after_writes}
use Rattle.bpf_semantics.specs.Run.{Run}
use Rattle.log_model.specs.declared.verdict.Verdict.{Verdict}
use Rattle.log_model.specs.declared.verdict.Verdict.TheVariants.{Commit, Conflict, Stale, Repeated, Taken}
use Rattle.log_model.specs.Log.{Setting, Log, IsLog, verdict_after, if_commits, history, rows_after, run_in, verdict_of, Catalogue, CallItem, CertifiedItem, certified_addition, procedures_after, run_on}
use Rattle.log_model.specs.Fit.{BeginsSafely, AreItems}
use Rattle.log_model.specs.Entries.{Entry, CarriesRun, CarryRuns, ExecutedCall, CallEntry, AdditionEntry, item_of, items_of, IsCarried, procedures_with}
use Rattle.dsm_model.specs.Contents.{ReplicaContents, IsContentsOf, with_delivered, first_contents, certified_next, rows_with}
use Rattle.log_model.proofs.RunLemmas.{just}
use Rattle.log_model.proofs.CallLemmas.{rows_first, rows_next, certified_is, serial_run, count_history, procedures_first, procedures_next, rows_after_addition, procedures_after_addition, addition_is}
use Rattle.log_model.proofs.GrowthLemmas.{grown, rows_grown, procedures_grown}

-- ---- lists

take_more : {X : Type 0} (xs : List X) (k : ℕ) (x : X) → slice_get xs k ≡ just x → take (suc k) xs ≡ take k xs ++ x ∷ []
take_more [] k x e = absurd cc
take_more (y ∷ xs) zero x e = let same : y ≡ x = cc in ap (λ z. z ∷ []) same
take_more (y ∷ xs) (suc k) x e = ap (λ l. y ∷ l) (take_more xs k x e)

pub carried_at : (w : Setting) (log : Log) (entries : List Entry) (k : ℕ) (e : Entry) → AllByRecursion (IsCarried w log) entries → slice_get entries k ≡ just e → IsCarried w log e
carried_at w log [] k e all at = absurd cc
carried_at w log (x ∷ entries) zero e all at = subst (IsCarried w log) (let same : x ≡ e = cc in same) all.0
carried_at w log (x ∷ entries) (suc k) e all at = carried_at w log entries k e all.1 at

pub item_there : (entries : List Entry) (k : ℕ) (e : Entry) → slice_get entries k ≡ just e → slice_get (items_of entries) k ≡ just (item_of e)
item_there entries k e at = slice_get-map item_of entries k ∙ ap (option_map item_of) at

-- ---- one delivery

-- what the log says of the entry that is next
certified_there : (w : Setting) (log : Log) (copy : ReplicaContents) (e : Entry) → IsLog log → IsContentsOf w log copy → IsCarried w log e → slice_get log (length copy.certified) ≡ just (item_of e)
    → slice_get (history w log).certified (length copy.certified) ≡ just (certified_next w copy e)
certified_there w log copy (CallEntry e) below is carries at =
    certified_is w log (length copy.certified) e.call below at
    ∙ ap (λ (l : List CertifiedItem). just (record { request = e.call.request; writes = (run_in w log e.call).writes; verdict = verdict_after w.window w.beginning.requests l e.call (run_in w log e.call).looks })) (sym is.certified)
    ∙ ap (λ l. just (record { request = e.call.request; writes = (run_in w log e.call).writes; verdict = verdict_after w.window w.beginning.requests copy.certified e.call l })) (sym carries.looks)
    ∙ ap (λ x. just (record { request = e.call.request; writes = x; verdict = verdict_after w.window w.beginning.requests copy.certified e.call e.looks })) (sym carries.writes)
certified_there w log copy (AdditionEntry p) below is carries at =
    addition_is w log (length copy.certified) p below at
    ∙ ap (λ (ps : Catalogue). just (certified_addition ps p)) (sym is.procedures)

pub verdict_next : (w : Setting) (log : Log) (copy : ReplicaContents) (e : Entry) → IsLog log → IsContentsOf w log copy → IsCarried w log e → slice_get log (length copy.certified) ≡ just (item_of e)
    → verdict_of w log (suc (length copy.certified)) ≡ just (certified_next w copy e).verdict
verdict_next w log copy e below is carries at = ap (option_map (λ (c : CertifiedItem). c.verdict)) (certified_there w log copy e below is carries at)

-- the effect on the rows now is that of the shipped writes
installs : (w : Setting) (log : Log) (d : ℕ) (e : ExecutedCall) (v : Verdict) → BeginsSafely w → IsLog log → AreItems w log → CarriesRun w log e → slice_get log d ≡ just (CallItem e.call) → verdict_of w log (suc d) ≡ just v
    → if_commits v (after_writes e.writes (rows_after w log d)) (rows_after w log d) ≡ if_commits v (run_on w log e.call (rows_after w log d)).effect (rows_after w log d)
installs w log d e Commit safe below items carries at is =
    ap (λ (x : Writes). after_writes x (rows_after w log d)) carries.writes ∙ sym (ap (λ (r : Run). r.effect) (serial_run w log d e.call safe below items at is))
installs w log d e (Conflict n) safe below items carries at is = refl
installs w log d e Stale safe below items carries at is = refl
installs w log d e (Repeated n) safe below items carries at is = refl
installs w log d e (Taken n) safe below items carries at is = refl

rows_there : (w : Setting) (log : Log) (copy : ReplicaContents) (e : Entry) → BeginsSafely w → IsLog log → AreItems w log → IsContentsOf w log copy → IsCarried w log e → slice_get log (length copy.certified) ≡ just (item_of e)
    → rows_with copy.rows e (certified_next w copy e) ≡ rows_after w log (suc (length copy.certified))
rows_there w log copy (CallEntry e) safe below items is carries at =
    let verdict = verdict_next w log copy (CallEntry e) below is carries at in
    ap (λ (rows : Rows). if_commits (verdict_after w.window w.beginning.requests copy.certified e.call e.looks) (after_writes e.writes rows) rows) is.rows
    ∙ installs w log (length copy.certified) e (verdict_after w.window w.beginning.requests copy.certified e.call e.looks) safe below items carries at verdict
    ∙ sym (rows_next w log (length copy.certified) e.call (verdict_after w.window w.beginning.requests copy.certified e.call e.looks) below at verdict)
rows_there w log copy (AdditionEntry p) safe below items is carries at = is.rows ∙ sym (rows_after_addition w log (length copy.certified) p below at)

procedures_there : (w : Setting) (log : Log) (copy : ReplicaContents) (e : Entry) → IsLog log → IsContentsOf w log copy → IsCarried w log e → slice_get log (length copy.certified) ≡ just (item_of e)
    → procedures_with copy.procedures e (certified_next w copy e) ≡ procedures_after w log (suc (length copy.certified))
procedures_there w log copy (CallEntry e) below is carries at = is.procedures ∙ sym (procedures_next w log (length copy.certified) e.call below at)
procedures_there w log copy (AdditionEntry p) below is carries at =
    let verdict = verdict_next w log copy (AdditionEntry p) below is carries at in
    ap (λ (ps : Catalogue). if_commits (certified_addition copy.procedures p).verdict (ps ++ p ∷ []) ps) is.procedures
    ∙ sym (procedures_after_addition w log (length copy.certified) p (certified_addition copy.procedures p).verdict below at verdict)

pub count_delivered : (w : Setting) (copy : ReplicaContents) (e : Entry) → length (with_delivered w copy e).certified ≡ suc (length copy.certified)
count_delivered w copy e = length-append copy.certified _ ∙ (let same : length copy.certified + 1 ≡ suc (length copy.certified) = omega arith in same)

pub delivered_next : (w : Setting) (log : Log) (copy : ReplicaContents) (e : Entry) → BeginsSafely w → IsLog log → AreItems w log → IsContentsOf w log copy → IsCarried w log e → slice_get log (length copy.certified) ≡ just (item_of e)
    → IsContentsOf w log (with_delivered w copy e)
delivered_next w log copy e safe below items is carries at = record {
  certified =
      ap (λ (l : List CertifiedItem). l ++ certified_next w copy e ∷ []) is.certified
      ∙ sym (ap (λ (k : ℕ). take k (history w log).certified) (count_delivered w copy e)
      ∙ take_more (history w log).certified (length copy.certified) _ (certified_there w log copy e below is carries at));
  rows = rows_there w log copy e safe below items is carries at ∙ ap (rows_after w log) (sym (count_delivered w copy e));
  procedures = procedures_there w log copy e below is carries at ∙ ap (procedures_after w log) (sym (count_delivered w copy e));
}

-- ---- all that are left

pub record Rebuilt (w : Setting) (log : Log) (copy : ReplicaContents) (count : ℕ) : Type 0 where
  pub is : IsContentsOf w log copy
  pub position : length copy.certified ≡ count

get_here : {X : Type 0} (xs : List X) (x : X) (ys : List X) → slice_get (xs ++ x ∷ ys) (length xs) ≡ just x
get_here [] x ys = refl
get_here (y ∷ xs) x ys = get_here xs x ys

delivered_all : (w : Setting) (entries done left : List Entry) (copy : ReplicaContents) → BeginsSafely w → IsLog (items_of entries) → AreItems w (items_of entries) → CarryRuns w entries
    → entries ≡ done ++ left → length copy.certified ≡ length done → IsContentsOf w (items_of entries) copy → Rebuilt w (items_of entries) (fold (with_delivered w) copy left) (length entries)
delivered_all w entries done [] copy safe below calls carry split count is =
    let all : length entries ≡ length done + 0 = ap length split ∙ length-append done [] in
    record { is = is; position = omega arith }
delivered_all w entries done (e ∷ left) copy safe below calls carry split count is =
    let at : slice_get entries (length copy.certified) ≡ just e = ap (slice_get entries) count ∙ ap (λ (l : List Entry). slice_get l (length done)) split ∙ get_here done e left in
    let next = delivered_next w (items_of entries) copy e safe below calls is (carried_at w (items_of entries) entries (length copy.certified) e carry at) (item_there entries (length copy.certified) e at) in
    let long : length (done ++ e ∷ []) ≡ length done + 1 = length-append done (e ∷ []) in
    let more = count_delivered w copy e in
    delivered_all w entries (done ++ e ∷ []) left (with_delivered w copy e) safe below calls carry (split ∙ sym (append_assoc done (e ∷ []) left)) (omega arith) next

pub first_is : (w : Setting) (log : Log) → IsContentsOf w log (first_contents w)
first_is w log = record { certified = refl; rows = sym (rows_first w log); procedures = sym (procedures_first w log) }

pub rebuilt : (w : Setting) (entries : List Entry) → BeginsSafely w → IsLog (items_of entries) → AreItems w (items_of entries) → CarryRuns w entries → Rebuilt w (items_of entries) (fold (with_delivered w) (first_contents w) entries) (length entries)
rebuilt w entries safe below calls carry = delivered_all w entries [] entries (first_contents w) safe below calls carry refl refl (first_is w (items_of entries))

-- ---- a log that grows

pub copy_grown : (w : Setting) (log more : Log) (copy : ReplicaContents) → length copy.certified ≤ length log → IsContentsOf w log copy → IsContentsOf w (log ++ more) copy
copy_grown w log more copy le is =
    let g = grown w log more in
    let count = count_history w log in
    record {
      certified = is.certified ∙ sym (ap (λ (l : List CertifiedItem). take (length copy.certified) l) g.certified_is ∙ take-append-le (length copy.certified) (history w log).certified g.certified (omega arith));
      rows = is.rows ∙ sym (rows_grown w log more (length copy.certified) le);
      procedures = is.procedures ∙ sym (procedures_grown w log more (length copy.certified) le);
    }

pub rebuilt_copy : (w : Setting) (entries : List Entry) → BeginsSafely w → IsLog (items_of entries) → AreItems w (items_of entries) → CarryRuns w entries → IsContentsOf w (items_of entries) (fold (with_delivered w) (first_contents w) entries)
rebuilt_copy w entries safe below calls carry = (rebuilt w entries safe below calls carry).is

pub rebuilt_position : (w : Setting) (entries : List Entry) → BeginsSafely w → IsLog (items_of entries) → AreItems w (items_of entries) → CarryRuns w entries → length (fold (with_delivered w) (first_contents w) entries).certified ≡ length entries
rebuilt_position w entries safe below calls carry = (rebuilt w entries safe below calls carry).position
