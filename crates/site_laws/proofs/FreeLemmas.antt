-- A call that a site gave to be ordered commits where nothing since its snapshot stands in its way.
use Rattle.std.proofs.Common.{◌≡◌, ℕ, suc, ◌+◌, ◌-◌, ◌≤◌, ◌<◌, Bool, true, false, not, cond, ◌||◌, nat_le, is_some, List, [], ◌∷◌, ◌++◌, length, take, drop, slice_get, Option, Some, None, option_map, refl, sym, ap, subst, ◌∙◌, arith, append-nil}
use Rattle.std.proofs.lemmas.List.{length-map}
use Rattle.schema.specs.declared.look.Look.{Look}
use Rattle.bpf_semantics.specs.Run.{Run}
use Rattle.log_model.specs.declared.verdict.Verdict.TheVariants as verdict
use Rattle.log_model.specs.Log.{DoneRequest, Call, CallItem, CertifiedItem, Log, IsLog, conflicts, first_position, first_repeated, history, run_in, unless_conflict, unless_repeated, verdict_after, verdict_of}
use Rattle.log_model.specs.Entries.{Entry, CallEntry, item_of, items_of}
use Rattle.log_model.specs.Verdicts.{WroteWhatWasRead}
use Rattle.log_model.proofs.CallLemmas.{certified_is, count_history}
use Rattle.log_model.proofs.GrowthLemmas.{run_grown}
use Rattle.site_model.specs.declared.cause.NothingCause.{NothingCause}
use Rattle.site_model.specs.declared.cause.NothingCause.TheVariants as cause
use Rattle.site_model.specs.declared.outcome.EntryOutcome.TheVariants as outcome
use Rattle.site_model.specs.Sessions.{Sessions, session_cause}
use Rattle.site_model.specs.Standing.{SiteSetting, Standing, StandsAs, IsDecided, IsNothing, executed, is_decided, request_standing, standing}
use Rattle.site_model.specs.Order.{entry_standing, next_entry, outcome_behind, with_bytes}
use Rattle.site_model.proofs.StandingLemmas.{stands_as_call}
use Rattle.site_laws.proofs.LogLemmas.{at_last, call_there, items_snoc}
use Rattle.site_laws.proofs.OwnLemmas.{IsOwn}
use Rattle.site_laws.proofs.RefusedLemmas.{ConflictMeans, past_is}
use Rattle.site_laws.proofs.SettledLemmas.{wrote_there}

-- the verdict on a call that isn't repeated, and isn't late
new_verdict : (window : ℕ) (done : List DoneRequest) (past : List CertifiedItem) (call : Call) (looks : List Look) → first_repeated done past call ≡ None → nat_le (length past - call.snapshot) window ≡ true
    → verdict_after window done past call looks ≡ unless_conflict (first_position (conflicts looks) (call.snapshot + 1) (drop call.snapshot past))
unfolding verdict_after
new_verdict window done past call looks none within =
    λ i. unless_repeated (none i) (cond (within i) (unless_conflict (first_position (conflicts looks) (call.snapshot + 1) (drop call.snapshot past))) verdict.Stale)

module _ (s : SiteSetting) (now : Sessions) (entries later : List Entry) (bytes : List ℕ) (c : Call) (own : IsOwn s entries later bytes c) (inside : session_cause s.origin now c.request ≡ None) (new : first_repeated s.setting.beginning.requests (history s.setting (items_of (entries ++ later))).certified c ≡ None)
    (near : nat_le (length (items_of (entries ++ later)) - c.snapshot) s.setting.window ≡ true) where
  abbrev all : List Entry
  all = entries ++ later

  abbrev here : Log
  here = items_of all

  abbrev whole : Log
  whole = items_of (with_bytes s now all bytes)

  pub free_stands : standing s now here bytes ≡ StandsAs (CallEntry (executed s.setting here c))
  free_stands =
      stands_as_call s now here bytes c (executed s.setting (items_of entries) c).reply own.head
      ∙ ap (λ (why : Option NothingCause). cond (not (nat_le c.snapshot (length here))) (IsNothing cause.Snapshot) (request_standing s.setting here c bytes why)) inside
      ∙ λ i. tested (own.early i) (undecided i) (own.takes i) (own.is i)
    where
      undecided : is_decided s.setting here c ≡ false
      undecided = λ i. is_some (new i) || not (near i)

      tested : Bool → Bool → Bool → Bool → Standing
      tested a b t u = cond (not a) (IsNothing cause.Snapshot) (cond b (IsDecided c) (cond (not t) (IsNothing cause.Procedure) (cond u (StandsAs (CallEntry (executed s.setting here c))) (IsNothing cause.Untrue))))

  -- no call that committed since wrote a key that it looked at
  abbrev IsApart : Type 0
  IsApart = (position : ℕ) → c.snapshot < position → WroteWhatWasRead s.setting here (run_in s.setting (items_of entries) c).looks position → ⊥

  pub free_commits : ConflictMeans → IsLog whole → c.snapshot ≤ length here → IsApart → outcome_behind s now all bytes ≡ outcome.Committed (run_in s.setting (items_of entries) c).reply
  free_commits means is_log early apart =
      at_last s now all bytes verdict.Commit (known ∙ by_conflict (first_position (conflicts looks) (c.snapshot + 1) (drop c.snapshot past)) known) (StandsAs (CallEntry (executed s.setting here c))) free_stands
      ∙ ap (λ (r : Run). outcome.Committed r.reply) own.run
    where
      looks : List Look
      looks = (run_in s.setting whole c).looks

      past : List CertifiedItem
      past = (history s.setting here).certified

      count : length here ≡ length all
      count = length-map all item_of

      as_one_more : whole ≡ here ++ CallItem c ∷ []
      as_one_more = items_snoc all (next_entry s now all bytes) ∙ ap (λ (st : Standing). here ++ item_of (entry_standing s.setting here st) ∷ []) free_stands

      past_there : take (length all) (history s.setting whole).certified ≡ past
      past_there = ap (λ (n : ℕ). take n (history s.setting whole).certified) (sym count) ∙ ap (λ (l : Log). take (length here) (history s.setting l).certified) as_one_more ∙ past_is s.setting here (CallItem c ∷ [])

      near_past : nat_le (length past - c.snapshot) s.setting.window ≡ true
      near_past = ap (λ (n : ℕ). nat_le (n - c.snapshot) s.setting.window) (count_history s.setting here) ∙ near

      there : slice_get whole (length all) ≡ Some (CallItem c)
      there = call_there s now all bytes (executed s.setting here c) free_stands

      known : verdict_of s.setting whole (suc (length all)) ≡ Some (unless_conflict (first_position (conflicts looks) (c.snapshot + 1) (drop c.snapshot past)))
      known =
          ap (option_map (λ (x : CertifiedItem). x.verdict)) (certified_is s.setting whole (length all) c is_log there)
          ∙ ap (λ (cs : List CertifiedItem). Some (verdict_after s.setting.window s.setting.beginning.requests cs c looks)) past_there
          ∙ ap Some (new_verdict s.setting.window s.setting.beginning.requests past c looks new near_past)

      same_run : run_in s.setting whole c ≡ run_in s.setting (items_of entries) c
      same_run = ap (λ (l : Log). run_in s.setting l c) as_one_more ∙ run_grown s.setting here (CallItem c ∷ []) c early ∙ own.run

      no_conflict : (position : ℕ) → verdict_of s.setting whole (suc (length all)) ≡ Some (verdict.Conflict position) → ⊥
      no_conflict position conflict =
          let facts = (means s.setting whole (length all) c position is_log there).0 conflict in
          let is = facts.2.is in
          let reach : position ≤ length here = omega (arith, is.earlier, count) in
          let wrote = wrote_there s.setting here (CallItem c ∷ []) [] looks position (subst IsLog as_one_more is_log) reach (subst (λ (l : Log). WroteWhatWasRead s.setting l looks position) as_one_more is.wrote) in
          apart position is.since
          (subst (λ (r : Run). WroteWhatWasRead s.setting here r.looks position) same_run (subst (λ (l : Log). WroteWhatWasRead s.setting l looks position) (append-nil here) wrote))

      by_conflict : (o : Option ℕ) → verdict_of s.setting whole (suc (length all)) ≡ Some (unless_conflict o) → Some (unless_conflict o) ≡ Some verdict.Commit
      by_conflict None is = refl
      by_conflict (Some position) is = absurd (no_conflict position is)
