-- An entry with its fact behind the entries of a log.
use Rattle.std.proofs.Common.{◌≡◌, ℕ, suc, ◌≤◌, List, [], ◌∷◌, ◌++◌, length, take, drop, Some, None, refl, sym, ap, subst, ◌∙◌, arith}
use Rattle.std.specs.FinMap.{get-empty}
use Rattle.bpf_code.specs.Program.{IsProgram}
use Rattle.schema.specs.Schema.{Tables, AreTables}
use Rattle.schema.specs.Rows.{AreWrites, key_cmp}
use Rattle.bpf_verify.specs.Flow.{IsAccepted}
use Rattle.log_model.specs.Log.{StoredProcedure, Setting, Call as OrderedCall, Log, IsPlaced}
use Rattle.log_model.specs.Fit.{IsCall, IsSafe}
use Rattle.log_model.specs.Entries.{ExecutedCall, Entry, item_of, items_of, CarriesRun, IsCarried}
use Rattle.log_model.specs.Fit.{IsItem}
use Rattle.catalogue.specs.Stored.{ListedProcedure, stored}
use Rattle.log_entry.specs.declared.entry.Entry.{Entry as LogEntry}
use Rattle.log_entry.specs.declared.entry.Entry.TheVariants.{Call, Addition}
use Rattle.log_entry.specs.Kind.{entry_of}
use Rattle.order_log.specs.Facts.{HasFactAfter}
use Rattle.replica.specs.Replica.{AreEntriesOf, IsForTables, IsNamed, entries_of, writes_in}
use Rattle.replica.proofs.EntryLemmas.{take_drop, take_count, items_append, items_count}
use Rattle.locked_replica.specs.Ordered.{IsOrderedAddition, IsOrdered}

-- what the laws of lower crates say
abbrev pub OneMore : Type 0
OneMore = (w : Setting) (entries : List Entry) (e : Entry) → AreEntriesOf w entries → IsPlaced (length entries) (item_of e) → IsItem w (items_of entries) (item_of e) → IsCarried w (items_of entries) e → AreEntriesOf w (entries ++ e ∷ [])

abbrev pub AsksIsCall : Type 0
AsksIsCall = (w : Setting) (log more : Log) (call : OrderedCall) → call.snapshot ≤ length log → (IsCall w (log ++ more) call → IsCall w log call) × (IsCall w log call → IsCall w (log ++ more) call)

abbrev pub AsksRun : Type 0
AsksRun = (w : Setting) (log more : Log) (e : ExecutedCall) → e.call.snapshot ≤ length log → (CarriesRun w (log ++ more) e → CarriesRun w log e) × (CarriesRun w log e → CarriesRun w (log ++ more) e)

abbrev pub AreSafeOnes : Type 0
AreSafeOnes = (tables : Tables) (p : StoredProcedure) → IsProgram p.program → AreTables tables → IsAccepted (record { program = p.program; tables = tables; args_len = p.args_len }) → IsSafe tables p

safe_addition : AreSafeOnes → (schema : Tables) (p : ListedProcedure) → AreTables schema → IsOrderedAddition schema p → IsSafe schema (stored p)
safe_addition safe schema p are is =
    safe schema (stored p) is.accepted.program are
    (subst (λ (ts : Tables). IsAccepted (record { program = p.accepted.program; tables = ts; args_len = p.accepted.args_len })) is.tables is.accepted.accepted)

module _ {A : Type 0} where
  pub entries_append : (xs ys : List (LogEntry A)) → entries_of (xs ++ ys) ≡ entries_of xs ++ entries_of ys
  entries_append [] ys = refl
  entries_append (x ∷ xs) ys = ap (λ zs. entry_of x ∷ zs) (entries_append xs ys)

  pub entries_count : (xs : List (LogEntry A)) → length (entries_of xs) ≡ length xs
  entries_count [] = refl
  entries_count (x ∷ xs) = ap suc (entries_count xs)

  -- the log up to a position, and the rest
  log_split : (entries : List (LogEntry A)) (s : ℕ) → items_of (entries_of (take s entries)) ++ items_of (entries_of (drop s entries)) ≡ items_of (entries_of entries)
  log_split entries s =
      sym (items_append (entries_of (take s entries)) (entries_of (drop s entries)))
      ∙ ap items_of (sym (entries_append (take s entries) (drop s entries)) ∙ ap (λ (xs : List (LogEntry A)). entries_of xs) (take_drop entries s))

  log_count : (entries : List (LogEntry A)) (s : ℕ) → s ≤ length entries → length (items_of (entries_of (take s entries))) ≡ s
  log_count entries s le = items_count (entries_of (take s entries)) ∙ entries_count (take s entries) ∙ take_count entries s le

  call_in : AsksIsCall → (w : Setting) (entries : List (LogEntry A)) (call : OrderedCall) → call.snapshot ≤ length entries → IsCall w (items_of (entries_of (take call.snapshot entries))) call → IsCall w (items_of (entries_of entries)) call
  call_in asks w entries call le is =
      let s = call.snapshot in
      let count = log_count entries s le in
      subst (λ (l : Log). IsCall w l call) (log_split entries s) ((asks w (items_of (entries_of (take s entries))) (items_of (entries_of (drop s entries))) call (omega (arith, count))).1 is)

  run_in_log : AsksRun → (w : Setting) (entries : List (LogEntry A)) (e : ExecutedCall) → e.call.snapshot ≤ length entries → CarriesRun w (items_of (entries_of (take e.call.snapshot entries))) e → CarriesRun w (items_of (entries_of entries)) e
  run_in_log asks w entries e le is =
      let s = e.call.snapshot in
      let count = log_count entries s le in
      subst (λ (l : Log). CarriesRun w l e) (log_split entries s) ((asks w (items_of (entries_of (take s entries))) (items_of (entries_of (drop s entries))) e (omega (arith, count))).1 is)

  pub placed : (w : Setting) (entries : List (LogEntry A)) (e : LogEntry A) → HasFactAfter (IsOrdered w) entries e → IsPlaced (length entries) (item_of (entry_of e))
  placed w entries (Call e) has = has.0
  placed w entries (Addition p) has = tt

  pub writes : (w : Setting) (entries : List (LogEntry A)) (e : LogEntry A) → HasFactAfter (IsOrdered w) entries e → AreWrites w.tables (writes_in (entry_of e))
  writes w entries (Call e) has = has.1.writes
  writes w entries (Addition p) has = λ k write e. absurd (let bad : None ≡ Some write = sym (get-empty key_cmp k) ∙ e in cc)

  pub named : (w : Setting) (entries : List (LogEntry A)) (e : LogEntry A) → HasFactAfter (IsOrdered w) entries e → IsNamed (entry_of e)
  named w entries (Call e) has = tt
  named w entries (Addition p) has = has.1.name

  pub for_tables : (w : Setting) (entries : List (LogEntry A)) (e : LogEntry A) → HasFactAfter (IsOrdered w) entries e → IsForTables w.tables e
  for_tables w entries (Call e) has = tt
  for_tables w entries (Addition p) has = has.1.tables

  item : AsksIsCall → AreSafeOnes → (w : Setting) (entries : List (LogEntry A)) (e : LogEntry A) → AreTables w.tables → HasFactAfter (IsOrdered w) entries e → IsItem w (items_of (entries_of entries)) (item_of (entry_of e))
  item asks safe w entries (Call e) are has = call_in asks w entries e.call has.0 has.1.is_call
  item asks safe w entries (Addition p) are has = safe_addition safe w.tables p are has.1

  carried : AsksRun → (w : Setting) (entries : List (LogEntry A)) (e : LogEntry A) → HasFactAfter (IsOrdered w) entries e → IsCarried w (items_of (entries_of entries)) (entry_of e)
  carried asks w entries (Call e) has = run_in_log asks w entries e has.0 has.1.run
  carried asks w entries (Addition p) has = tt

  pub of_log : OneMore → AsksIsCall → AsksRun → AreSafeOnes → (w : Setting) (entries : List (LogEntry A)) (e : LogEntry A) → AreTables w.tables → AreEntriesOf w (entries_of entries) → HasFactAfter (IsOrdered w) entries e
      → AreEntriesOf w (entries_of (entries ++ e ∷ []))
  of_log one is_call runs safe w entries e are of has =
      subst (λ (es : List Entry). AreEntriesOf w es) (sym (entries_append entries (e ∷ [])))
      (one w (entries_of entries) (entry_of e) of (subst (λ (n : ℕ). IsPlaced n (item_of (entry_of e))) (sym (entries_count entries)) (placed w entries e has)) (item is_call safe w entries e are has) (carried runs w entries e has))
