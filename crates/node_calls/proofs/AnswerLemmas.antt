-- What a call is answered by its verdict.
use Rattle.std.proofs.Common.{◌≡◌, ◌⊎◌, inl, inr, ℕ, zero, suc, ◌+◌, ◌-◌, ◌≤◌, Bool, true, false, cond, nat_le, drop, List, [], ◌∷◌, ◌++◌, length, length-append, slice_get, Option, Some, None, is_some, refl, sym, ap, subst, ◌∙◌, arith}
use Rattle.std.specs.Prelude.{◌≢◌, IsTrue}
use Rattle.std.specs.Option.{option_map}
use Rattle.log_model.specs.declared.verdict.Identifier.{Identifier}
use Rattle.log_model.specs.declared.verdict.Verdict.{Verdict}
use Rattle.log_model.specs.declared.verdict.Verdict.TheVariants.{Stale, Repeated, Taken}
use Rattle.schema.specs.declared.look.Look.{Look}
use Rattle.log_model.specs.Log.{DoneRequest, CertifiedItem, first_position, first_repeated, conflicts, verdict_after, Setting, Call, Item, CallItem, Log, IsLog, verdict_of, unless_repeated, unless_conflict}
use Rattle.log_model.specs.Entries.{ExecutedCall, item_of, items_of}
use Rattle.log_model.specs.Verdicts.{IsRepeated}
use Rattle.log_model.specs.Entries.{Entry, CallEntry, certified_entry, certified_entries_of}
use Rattle.log_entry.specs.declared.entry.Entry.{Entry as LogEntry}
use Rattle.log_entry.specs.declared.entry.Entry.TheVariants as entry
use Rattle.log_entry.specs.Kind.{entry_of}
use Rattle.replica.specs.Replica.{AreEntriesOf, entries_of}
use Rattle.locked_replica.proofs.EntryLemmas.{entries_append, entries_count}
use Rattle.node_calls.specs.Running.{log_seen}
use Rattle.node_calls.specs.Answer.{IsAppended, IsVerdict, WasDoneAt}

abbrev just : {X : Type 0} → X → Option X
just x = Some x

-- ---- entries that were seen, as items of a log

module _ {A : Type 0} where
  pub item_at : (seen : List (LogEntry A)) (k : ℕ) (e : LogEntry A) → slice_get seen k ≡ Some e → slice_get (log_seen seen) k ≡ Some (item_of (entry_of e))
  item_at [] k e h = absurd cc
  item_at (x ∷ seen) zero e h = ap (λ (o : Option (LogEntry A)). kind o) h
    where
      kind : Option (LogEntry A) → Option Item
      kind None = None
      kind (Some e) = Some (item_of (entry_of e))
  item_at (x ∷ seen) (suc k) e h = item_at seen k e h

  last_at : (before : List (LogEntry A)) (e : LogEntry A) → slice_get (before ++ e ∷ []) (length before) ≡ Some e
  last_at [] e = refl
  last_at (x ∷ before) e = last_at before e

  -- ---- the entry that was seen last

  pub verdict_here : (w : Setting) (e : ExecutedCall) (position : ℕ) (seen : List (LogEntry A)) (v : Verdict) → IsAppended w e position seen → IsVerdict w (length seen) seen v → IsVerdict w position seen v
  verdict_here w e position seen v appended known = subst (λ (n : ℕ). IsVerdict w n seen v) (sym appended.place) known

  last_item : (w : Setting) (e : ExecutedCall) (position : ℕ) (seen : List (LogEntry A)) (a : IsAppended w e position seen) → slice_get (log_seen seen) (length a.before) ≡ Some (CallItem e.call)
  last_item w e position seen a =
      item_at seen (length a.before) (entry.Call e) (ap (λ (xs : List (LogEntry A)). slice_get xs (length a.before)) a.list ∙ last_at a.before (entry.Call e))

  count : (w : Setting) (e : ExecutedCall) (position : ℕ) (seen : List (LogEntry A)) (a : IsAppended w e position seen) → length seen ≡ suc (length a.before)
  count w e position seen a = let n = ap (λ (xs : List (LogEntry A)). length xs) a.list ∙ length-append a.before (entry.Call e ∷ []) in omega arith

  verdict_last : (w : Setting) (e : ExecutedCall) (position : ℕ) (seen : List (LogEntry A)) (v : Verdict) (a : IsAppended w e position seen) → IsVerdict w (length seen) seen v → verdict_of w (log_seen seen) (suc (length a.before)) ≡ Some v
  verdict_last w e position seen v a known = ap (verdict_of w (log_seen seen)) (sym (count w e position seen a)) ∙ known.verdict

-- ---- a call is repeated by a call, and nothing is taken

taken_of : (r : Option ℕ) (b : Bool) (o : Option ℕ) (i : Identifier) → just (unless_repeated r (cond b (unless_conflict o) Stale)) ≡ just (Taken i) → ⊥
taken_of (Some n) b o i e = cc
taken_of None true None i e = cc
taken_of None true (Some n) i e = cc
taken_of None false o i e = cc

taken_after : (window : ℕ) (done : List DoneRequest) (past : List CertifiedItem) (call : Call) (looks : List Look) (i : Identifier) → just (verdict_after window done past call looks) ≡ just (Taken i) → ⊥
unfolding verdict_after
taken_after window done past call looks i e =
    taken_of (first_repeated done past call) (nat_le (length past - call.snapshot) window) (first_position (conflicts looks) (call.snapshot + 1) (drop call.snapshot past)) i e

-- what the law of replicas says of the next entry
abbrev pub NextVerdict : Type 0
NextVerdict = (w : Setting) (entries : List Entry) (e : Entry) → AreEntriesOf w (entries ++ e ∷ [])
    → verdict_of w (items_of (entries ++ e ∷ [])) (length entries + 1) ≡ Some (certified_entry w.window (certified_entries_of w.window w.beginning entries) e).verdict

module _ {A : Type 0} (w : Setting) (e : ExecutedCall) (position : ℕ) (seen : List (LogEntry A)) where
  pub never_taken : (law : NextVerdict) (i : Identifier) → IsAppended w e position seen → IsVerdict w (length seen) seen (Taken i) → ⊥
  never_taken law i a known =
      let same : entries_of seen ≡ entries_of a.before ++ CallEntry e ∷ [] = ap (λ (xs : List (LogEntry A)). entries_of xs) a.list ∙ entries_append a.before (entry.Call e ∷ []) in
      let long : length (entries_of a.before) + 1 ≡ length seen = let n = entries_count a.before in let all = count w e position seen a in omega arith in
      taken_after w.window (certified_entries_of w.window w.beginning (entries_of a.before)).done (certified_entries_of w.window w.beginning (entries_of a.before)).certified e.call e.looks i
      (sym (law w (entries_of a.before) (CallEntry e) (subst (AreEntriesOf w) same known.entries))
      ∙ ap (λ (xs : List Entry). verdict_of w (items_of xs) (length (entries_of a.before) + 1)) (sym same)
      ∙ ap (verdict_of w (log_seen seen)) long ∙ known.verdict)

  -- what the law of verdicts says
  abbrev pub RepeatsACall : Type 0
  RepeatsACall = (log : Log) (d : ℕ) (call : Call) (earlier : ℕ) → IsLog log → slice_get log d ≡ Some (CallItem call) → verdict_of w log (suc d) ≡ Some (Repeated earlier) → IsRepeated w log call earlier (suc d)

  pub repeated : (law : RepeatsACall) (earlier : ℕ) → IsAppended w e position seen → IsVerdict w (length seen) seen (Repeated earlier) → WasDoneAt w seen e.call.request earlier
  repeated law earlier a known =
      by (law (log_seen seen) (length a.before) e.call earlier known.entries.log (last_item w e position seen a) (verdict_last w e position seen (Repeated earlier) a known))
    where
      by : IsRepeated w (log_seen seen) e.call earlier (suc (length a.before)) → WasDoneAt w seen e.call.request earlier
      by (inl done) = inl (done.1, done.0)
      by (inr r) =
          let all = count w e position seen a in
          let place : earlier - 1 ≡ r.before = let p = r.place in omega arith in inr (
            (let p = r.place in omega arith),
            (let p = r.earlier in omega arith),
            (r.first, ap (slice_get (log_seen seen)) place ∙ r.stands),
          )

-- a request that was done before has a reply
pub has_reply : (o : Option DoneRequest) → IsTrue (is_some o) → (reply : Option ℕ) → reply ≡ option_map (λ d. d.reply) o → reply ≢ None
has_reply None done reply is none = absurd cc
has_reply (Some d) done reply is none = let bad : Some d.reply ≡ None = sym is ∙ none in cc

-- ---- an addition is no call

pub no_call : {A : Type 0} (seen : List (LogEntry A)) (k : ℕ) (e : LogEntry A) (p : _) (call : Call) → slice_get seen k ≡ Some e → e ≡ entry.Addition p → slice_get (log_seen seen) k ≡ Some (CallItem call) → ⊥
no_call seen k e p call at is here = let other = sym (item_at seen k (entry.Addition p) (at ∙ ap just is)) ∙ here in cc
