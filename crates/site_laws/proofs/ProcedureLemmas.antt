-- The procedures behind one more byte string.
use Rattle.std.proofs.Common.{◌≡◌, ◌≢◌, ◌↔◌, ℕ, suc, List, [], ◌∷◌, ◌++◌, length, slice_get, Some, None, refl, ap, subst, ◌∙◌, arith}
use Rattle.std.proofs.lemmas.List.{length-map}
use Rattle.log_model.specs.declared.verdict.Verdict.{Verdict}
use Rattle.log_model.specs.declared.verdict.Verdict.TheVariants as verdict
use Rattle.log_model.specs.Log.{StoredProcedure, Catalogue, Setting, Call, CallItem, AdditionItem, Log, IsLog, by_name, by_number, if_commits, procedures_after, verdict_of}
use Rattle.log_model.specs.Entries.{Entry, CallEntry, AdditionEntry, item_of, items_of}
use Rattle.site_model.specs.declared.outcome.EntryOutcome.TheVariants as outcome
use Rattle.site_model.specs.Sessions.{Sessions}
use Rattle.site_model.specs.Standing.{SiteSetting, Standing, StandsAs, IsDecided, OpensSession, IsNothing, standing}
use Rattle.site_model.specs.Order.{entry_standing, next_entry, outcome_behind, with_bytes}
use Rattle.site_laws.proofs.LogLemmas.{HaveVerdicts, ProceduresGrow, at_last, entry_is, item_there, items_snoc, last_verdict}

-- what lower laws say
abbrev pub ProceduresCall : Type 0
ProceduresCall = (w : Setting) (log : Log) (d : ℕ) (call : Call) → IsLog log → slice_get log d ≡ Some (CallItem call) → procedures_after w log (suc d) ≡ procedures_after w log d

abbrev pub ProceduresAddition : Type 0
ProceduresAddition = (w : Setting) (log : Log) (d : ℕ) (p : StoredProcedure) (v : Verdict) → IsLog log → slice_get log d ≡ Some (AdditionItem p) → verdict_of w log (suc d) ≡ Some v
    → procedures_after w log (suc d) ≡ if_commits v (procedures_after w log d ++ p ∷ []) (procedures_after w log d)

abbrev pub AdditionCommits : Type 0
AdditionCommits = (w : Setting) (log : Log) (d : ℕ) (p : StoredProcedure) → IsLog log → slice_get log d ≡ Some (AdditionItem p)
    → (verdict_of w log (suc d) ≡ Some verdict.Commit) ↔ ((by_name (procedures_after w log d) p.name ≡ None) × (by_number (procedures_after w log d) p.number ≡ None))

left_by : (v : Verdict) (more ps : Catalogue) → (v ≡ verdict.Commit → ⊥) → if_commits v more ps ≡ ps
left_by verdict.Commit more ps isnt = absurd (isnt refl)
left_by (verdict.Conflict n) more ps isnt = refl
left_by verdict.Stale more ps isnt = refl
left_by (verdict.Repeated n) more ps isnt = refl
left_by (verdict.Taken i) more ps isnt = refl

module _ (s : SiteSetting) (known : Sessions) (entries : List Entry) (bytes : List ℕ) where
  abbrev whole : Log
  whole = items_of (with_bytes s known entries bytes)

  abbrev before : Catalogue
  before = procedures_after s.setting (items_of entries) (length entries)

  abbrev behind : Catalogue
  behind = procedures_after s.setting whole (suc (length entries))

  pub procedures_before : ProceduresGrow → procedures_after s.setting whole (length entries) ≡ before
  procedures_before grow =
      ap (λ (l : Log). procedures_after s.setting l (length entries)) (items_snoc entries (next_entry s known entries bytes))
      ∙ grow s.setting (items_of entries) (item_of (next_entry s known entries bytes) ∷ []) (length entries) (omega (arith, length-map entries item_of))

  pub addition_there : (p : StoredProcedure) → standing s known (items_of entries) bytes ≡ StandsAs (AdditionEntry p) → slice_get whole (length entries) ≡ Some (AdditionItem p)
  addition_there p is = item_there entries (next_entry s known entries bytes) ∙ ap (λ (x : Entry). Some (item_of x)) (entry_is s known entries bytes (AdditionEntry p) is)

  -- an addition commits where its name and number are new
  pub is_new : ProceduresGrow → AdditionCommits → IsLog whole → (p : StoredProcedure) → standing s known (items_of entries) bytes ≡ StandsAs (AdditionEntry p)
      → (verdict_of s.setting whole (suc (length entries)) ≡ Some verdict.Commit) ↔ ((by_name before p.name ≡ None) × (by_number before p.number ≡ None))
  is_new grow commits log p is =
      subst (λ (ps : Catalogue). (verdict_of s.setting whole (suc (length entries)) ≡ Some verdict.Commit) ↔ ((by_name ps p.name ≡ None) × (by_number ps p.number ≡ None))) (procedures_before grow)
      (commits s.setting whole (length entries) p log (addition_there p is))

  pub one_more : ProceduresGrow → ProceduresAddition → IsLog whole → (p : StoredProcedure) → standing s known (items_of entries) bytes ≡ StandsAs (AdditionEntry p) → verdict_of s.setting whole (suc (length entries)) ≡ Some verdict.Commit
      → behind ≡ before ++ p ∷ []
  one_more grow addition log p is commit =
      addition s.setting whole (length entries) p verdict.Commit log (addition_there p is) commit ∙ ap (λ (ps : Catalogue). ps ++ p ∷ []) (procedures_before grow)

  -- that it is added is said
  pub says_added : (p : StoredProcedure) → standing s known (items_of entries) bytes ≡ StandsAs (AdditionEntry p) → verdict_of s.setting whole (suc (length entries)) ≡ Some verdict.Commit → outcome_behind s known entries bytes ≡ outcome.Added p.number
  says_added p is commit = at_last s known entries bytes verdict.Commit commit (StandsAs (AdditionEntry p)) is

  no_call : ProceduresGrow → ProceduresCall → IsLog whole → (call : Call) → item_of (next_entry s known entries bytes) ≡ CallItem call → behind ≡ before
  no_call grow calls log call is =
      calls s.setting whole (length entries) call log (item_there entries (next_entry s known entries bytes) ∙ ap Some is) ∙ procedures_before grow

  -- the others leave them
  pub others : HaveVerdicts → ProceduresGrow → ProceduresCall → ProceduresAddition → IsLog whole → ((number : ℕ) → outcome_behind s known entries bytes ≢ outcome.Added number) → behind ≡ before
  others verdicts grow calls addition log never = by_standing (standing s known (items_of entries) bytes) refl
    where
      by_standing : (st : Standing) → standing s known (items_of entries) bytes ≡ st → behind ≡ before
      by_standing (StandsAs (CallEntry e)) is = no_call grow calls log e.call (ap item_of (entry_is s known entries bytes (CallEntry e) is))
      by_standing (StandsAs (AdditionEntry p)) is =
          let (v, at) = last_verdict s known entries bytes verdicts in
          addition s.setting whole (length entries) p v log (addition_there p is) at
          ∙ left_by v (procedures_after s.setting whole (length entries) ++ p ∷ []) (procedures_after s.setting whole (length entries)) (λ commit. never p.number (says_added p is (at ∙ ap Some commit)))
          ∙ procedures_before grow
      by_standing (IsDecided call) is = no_call grow calls log _ (ap (λ (st : Standing). item_of (entry_standing s.setting (items_of entries) st)) is)
      by_standing (OpensSession session) is = no_call grow calls log _ (ap (λ (st : Standing). item_of (entry_standing s.setting (items_of entries) st)) is)
      by_standing (IsNothing c) is = no_call grow calls log _ (ap (λ (st : Standing). item_of (entry_standing s.setting (items_of entries) st)) is)
