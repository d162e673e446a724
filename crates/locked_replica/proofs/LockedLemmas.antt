-- A replica beside what was delivered to it: at first, after one more entry, and what it says of one.
use Rattle.std.proofs.Common.{◌≡◌, ℕ, ◌+◌, ◌≤◌, List, [], ◌∷◌, ◌++◌, length, length-append, Some, sym, ap, subst, ◌∙◌, arith}
use mathlib.Core.List.{IsPrefix}
use Rattle.schema.specs.Schema.{AreTables}
use Rattle.log_model.specs.InstalledWrites.{map_after}
use Rattle.log_model.specs.declared.verdict.Verdict.{Verdict}
use Rattle.log_model.specs.Log.{Setting, IsLog, rows_after, verdict_of}
use Rattle.log_model.specs.Fit.{BeginsSafely, AreItems}
use Rattle.log_model.specs.Entries.{Entry, items_of, CarryRuns, certified_entries_of, installed_from}
use Rattle.log_entry.specs.declared.entry.Entry.{Entry as LogEntry}
use Rattle.log_entry.specs.Kind.{entry_of}
use Rattle.order_log.specs.Facts.{HasFactAfter}
use Rattle.replica.specs.Replica.{Replica, StandsFor, StandsIn, AreEntriesOf, entries_of, rows_kept}
use Rattle.replica.proofs.EntryLemmas.{entries_first}
use Rattle.locked_replica.specs.Ordered.{IsOrdered}
use Rattle.locked_replica.proofs.EntryLemmas.{entries_append, entries_count}
use Rattle.locked_replica.specs.Locked.{LockedState, Keeps}

-- what a replica says of the verdict at a position
abbrev pub HasLogVerdict : Replica → ℕ → Verdict → Type 0
HasLogVerdict r position v = (w : Setting) (entries : List Entry) → w.window ≡ r.window → StandsFor w.beginning r entries → AreEntriesOf w entries → verdict_of w (items_of entries) position ≡ Some v

-- what the laws of lower crates say
abbrev pub RowsSuffice : Type 0
RowsSuffice = (w : Setting) (entries : List Entry) (position : ℕ) → BeginsSafely w → IsLog (items_of entries) → AreItems w (items_of entries) → CarryRuns w entries → position ≤ length entries
    → map_after w.beginning.rows (installed_from 1 (certified_entries_of w.window w.beginning entries).certified) position ≡ rows_after w (items_of entries) position

abbrev pub OfLog : (A : Type 0) → Type 0
OfLog A = (w : Setting) (entries : List (LogEntry A)) (e : LogEntry A) → AreTables w.tables → AreEntriesOf w (entries_of entries) → HasFactAfter (IsOrdered w) entries e → AreEntriesOf w (entries_of (entries ++ e ∷ []))

abbrev pub RowsSame : (A : Type 0) → Type 0
RowsSame A = (w : Setting) (seen entries : List (LogEntry A)) → IsPrefix seen entries → rows_after w (items_of (entries_of entries)) (length seen) ≡ rows_after w (items_of (entries_of seen)) (length seen)

abbrev pub VerdictsSame : (A : Type 0) → Type 0
VerdictsSame A = (w : Setting) (seen entries : List (LogEntry A)) → IsPrefix seen entries → 1 ≤ length seen → verdict_of w (items_of (entries_of entries)) (length seen) ≡ verdict_of w (items_of (entries_of seen)) (length seen)

module _ {A : Type 0} where
  abbrev pub with_entries : Replica → List (LogEntry A) → LockedState A
  with_entries r entries = record { replica = r; entries = entries }

  pub keeps_none : (w : Setting) (r : Replica) (entries : List (LogEntry A)) → entries ≡ [] → AreTables w.tables → BeginsSafely w → StandsIn w r [] → Keeps w (with_entries r entries)
  keeps_none w r entries none schema safe stands = subst (λ (xs : List (LogEntry A)). Keeps w (with_entries r xs)) (sym none) (record {
    schema = schema;
    follows = record { of_log = record { begins = safe; log = tt; items = tt; runs = tt }; stands = stands };
  })

  -- one more entry
  pub keeps_more : (of_log : OfLog A) (w : Setting) (old new : Replica) (entries seen : List (LogEntry A)) (e : LogEntry A) → Keeps w (with_entries old entries) → seen ≡ entries ++ e ∷ [] → HasFactAfter (IsOrdered w) entries e
      → StandsIn w new (entries_of entries ++ entry_of e ∷ []) → Keeps w (with_entries new seen)
  keeps_more of_log w old new entries seen e keeps is fact stands = subst (λ (xs : List (LogEntry A)). Keeps w (with_entries new xs)) (sym is) (record {
    schema = keeps.schema;
    follows = record {
      of_log = of_log w entries e keeps.schema keeps.follows.of_log fact;
      stands = subst (StandsIn w new) (sym (entries_append entries (e ∷ []))) stands;
    };
  })

  pub verdict_more : (of_log : OfLog A) (w : Setting) (old new : Replica) (entries seen : List (LogEntry A)) (e : LogEntry A) (v : Verdict) → Keeps w (with_entries old entries) → seen ≡ entries ++ e ∷ [] → HasFactAfter (IsOrdered w) entries e
      → ((w : Setting) (before : List Entry) → w.window ≡ old.window → StandsFor w.beginning old before → AreEntriesOf w (before ++ entry_of e ∷ []) → verdict_of w (items_of (before ++ entry_of e ∷ [])) new.position ≡ Some v)
      → new.position ≡ old.position + 1 → verdict_of w (items_of (entries_of seen)) (length seen) ≡ Some v
  verdict_more of_log w old new entries seen e v keeps is fact verdict next =
      let count : length (entries ++ e ∷ []) ≡ new.position = let p = keeps.follows.stands.delivered.position in let n = entries_count entries in omega (arith, length-append entries (e ∷ [])) in
      let one = entries_append entries (e ∷ []) in
      ap (λ (xs : List (LogEntry A)). verdict_of w (items_of (entries_of xs)) (length xs)) is ∙ ap (verdict_of w (items_of (entries_of (entries ++ e ∷ [])))) count
      ∙ ap (λ (xs : List Entry). verdict_of w (items_of xs) new.position) one
      ∙ verdict w (entries_of entries) (sym keeps.follows.stands.window) keeps.follows.stands.delivered (subst (AreEntriesOf w) one (of_log w entries e keeps.schema keeps.follows.of_log fact))

  -- a beginning of what was delivered
  pub of_log_first : (w : Setting) (r : Replica) (entries seen : List (LogEntry A)) → Keeps w (with_entries r entries) → IsPrefix seen entries → AreEntriesOf w (entries_of seen)
  of_log_first w r entries seen keeps begins =
      entries_first w (entries_of seen) (entries_of begins.0)
      (subst (λ (xs : List Entry). AreEntriesOf w xs) (ap (λ (xs : List (LogEntry A)). entries_of xs) (sym begins.1) ∙ entries_append seen begins.0) keeps.follows.of_log)

  -- what is known of an entry
  pub found : (same : VerdictsSame A) (w : Setting) (r : Replica) (entries seen : List (LogEntry A)) (n : ℕ) (v : Verdict) → Keeps w (with_entries r entries) → IsPrefix seen entries → n ≡ length seen → 1 ≤ length seen → HasLogVerdict r n v
      → verdict_of w (items_of (entries_of seen)) (length seen) ≡ Some v
  found same w r entries seen n v keeps begins is some at =
      sym (same w seen entries begins some) ∙ ap (verdict_of w (items_of (entries_of entries))) (sym is) ∙ at w (entries_of entries) (sym keeps.follows.stands.window) keeps.follows.stands.delivered keeps.follows.of_log

  -- the rows after what was seen
  pub rows_seen : (same : RowsSame A) (suffice : RowsSuffice) (w : Setting) (r : Replica) (entries seen : List (LogEntry A)) (n : ℕ) → Keeps w (with_entries r entries) → IsPrefix seen entries → n ≡ length seen → length seen ≤ length entries
      → rows_kept r.window w.beginning (entries_of entries) n ≡ rows_after w (items_of (entries_of seen)) (length seen)
  rows_seen same suffice w r entries seen n keeps begins is le =
      let are = keeps.follows.of_log in
      let within : length seen ≤ length (entries_of entries) = let c = entries_count entries in omega arith in
      ap (λ window. rows_kept window w.beginning (entries_of entries) n) keeps.follows.stands.window
      ∙ ap (rows_kept w.window w.beginning (entries_of entries)) is
      ∙ suffice w (entries_of entries) (length seen) are.begins are.log are.items are.runs within
      ∙ same w seen entries begins
