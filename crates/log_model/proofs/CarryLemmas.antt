-- Entries that carry their runs do so as the log grows.
use Rattle.std.proofs.Common.{◌≡◌, ℕ, suc, ◌+◌, ◌≤◌, List, [], ◌∷◌, ◌++◌, length, sym, ap, subst, ◌∙◌, arith}
use Rattle.std.specs.List.{AllByRecursion}
use Rattle.std.proofs.lemmas.List.{length-map, map-append}
use Rattle.bpf_semantics.specs.Run.{Run}
use Rattle.log_model.specs.Log.{Setting, Log, IsPlaced, IsLogFrom, IsLog}
use Rattle.log_model.specs.Entries.{ExecutedCall, Entry, CallEntry, AdditionEntry, item_of, items_of, CarriesRun, IsCarried, CarryRuns}
use Rattle.log_model.proofs.GrowthLemmas.{run_grown}

pub carries_grown : (w : Setting) (log more : Log) (e : ExecutedCall) → e.call.snapshot ≤ length log → CarriesRun w log e → CarriesRun w (log ++ more) e
carries_grown w log more e le is =
    let same = sym (run_grown w log more e.call le) in
    record {
      looks = is.looks ∙ ap (λ (r : Run). r.looks) same;
      writes = is.writes ∙ ap (λ (r : Run). r.writes) same;
      reply = is.reply ∙ ap (λ (r : Run). r.reply) same;
    }

pub carries_before : (w : Setting) (log more : Log) (e : ExecutedCall) → e.call.snapshot ≤ length log → CarriesRun w (log ++ more) e → CarriesRun w log e
carries_before w log more e le is =
    let same = run_grown w log more e.call le in
    record {
      looks = is.looks ∙ ap (λ r. r.looks) same;
      writes = is.writes ∙ ap (λ r. r.writes) same;
      reply = is.reply ∙ ap (λ r. r.reply) same;
    }

carried_grown : (w : Setting) (log more : Log) (n : ℕ) (e : Entry) → IsPlaced n (item_of e) → n ≤ length log → IsCarried w log e → IsCarried w (log ++ more) e
carried_grown w log more n (CallEntry e) below le is = carries_grown w log more e (omega arith) is
carried_grown w log more n (AdditionEntry p) below le is = tt

pub all_grown : (w : Setting) (log more : Log) (n : ℕ) (entries : List Entry) → IsLogFrom n (items_of entries) → n + length entries ≤ length log → AllByRecursion (IsCarried w log) entries → AllByRecursion (IsCarried w (log ++ more)) entries
all_grown w log more n [] below le all = tt
all_grown w log more n (e ∷ entries) below le all =
    (carried_grown w log more n e below.0 (omega arith) all.0, all_grown w log more (suc n) entries below.1 (omega arith) all.1)

pub carry_snoc : (w : Setting) (log : Log) (entries : List Entry) (e : Entry) → AllByRecursion (IsCarried w log) entries → IsCarried w log e → AllByRecursion (IsCarried w log) (entries ++ e ∷ [])
carry_snoc w log [] e all is = (is, tt)
carry_snoc w log (x ∷ entries) e all is = (all.0, carry_snoc w log entries e all.1 is)

pub entry_appended : (w : Setting) (entries : List Entry) (e : Entry) → IsLog (items_of entries) → CarryRuns w entries → IsPlaced (length entries) (item_of e) → IsCarried w (items_of entries) e → CarryRuns w (entries ++ e ∷ [])
entry_appended w entries e below carry le is =
    let many = length-map entries item_of in
    let items : items_of (entries ++ e ∷ []) ≡ items_of entries ++ item_of e ∷ [] = map-append item_of entries (e ∷ []) in
    subst (λ (l : Log). AllByRecursion (IsCarried w l) (entries ++ e ∷ [])) (sym items)
    (carry_snoc w (items_of entries ++ item_of e ∷ []) entries e
    (all_grown w (items_of entries) (item_of e ∷ []) 0 entries below (omega arith) carry)
    (carried_grown w (items_of entries) (item_of e ∷ []) (length entries) e le (omega arith) is))
