-- What a byte string that changes nothing leaves as it is.
use Rattle.std.proofs.Common.{◌≡◌, ℕ, zero, suc, ◌+◌, ◌≤◌, ◌<◌, Bool, true, false, cond, ◌&&◌, is_some, List, [], ◌∷◌, ◌++◌, length, slice_get, Option, Some, None, option_map, refl, sym, ap, subst, ◌∙◌, arith, append_assoc}
use Rattle.std.specs.Prelude.{IsSome}
use Rattle.std.specs.FinMap.{empty, get, get-empty}
use Rattle.std.proofs.lemmas.List.{length-append, length-map}
use Rattle.schema.specs.Rows.{Key, Writes, key_cmp}
use Rattle.bpf_semantics.specs.Run.{Run}
use Rattle.log_model.specs.declared.request.RequestId.{RequestId}
use Rattle.log_model.specs.declared.verdict.Verdict.{Verdict}
use Rattle.log_model.specs.declared.verdict.Verdict.TheVariants as verdict
use Rattle.log_model.specs.declared.verdict.Identifier.TheVariants.{Name, Number}
use Rattle.log_model.specs.Log.{was_done, done_at, StoredProcedure, Catalogue, CertifiedItem, Call, CallItem, Log, IsLog, by_name, by_number, first_position, history, is_commit, procedures_after, repeats, run_in, same_request, verdict_of, verdict_on_addition}
use Rattle.log_model.specs.Entries.{Entry, CallEntry, AdditionEntry, item_of, items_of}
use Rattle.log_model.proofs.CallLemmas.{addition_is, certified_is, count_history}
use Rattle.log_model.proofs.GrowthLemmas.{get_before, grown, run_grown}
use Rattle.site_model.specs.declared.outcome.EntryOutcome.{EntryOutcome}
use Rattle.site_model.specs.declared.outcome.EntryOutcome.TheVariants as outcome
use Rattle.site_model.specs.Sessions.{Sessions}
use Rattle.site_model.specs.Standing.{SiteSetting, Standing, StandsAs, IsDecided, OpensSession, IsNothing, standing}
use Rattle.site_model.specs.Order.{replies_to, call_of_none, entry_standing, next_entry, outcome_behind, outcome_by, reply_in, with_bytes}
use Rattle.site_model.proofs.StandingLemmas.{runs_none}
use Rattle.site_laws.specs.Nothing.{ChangesNothing}
use Rattle.site_laws.specs.Requests.{with_reply}
use Rattle.site_laws.proofs.LogLemmas.{HaveVerdicts, at_last, item_there, items_go_on, items_snoc, last_verdict}
use Rattle.site_laws.proofs.OutcomeLemmas.{IsIdle}
use Rattle.site_laws.proofs.RefusedLemmas.{ConflictMeans}

-- ---- requests

no_more : (test : CertifiedItem → Bool) (position : ℕ) (cs : List CertifiedItem) (c : CertifiedItem) → test c ≡ false → first_position test position (cs ++ c ∷ []) ≡ first_position test position cs
unfolding first_position
no_more test position [] c e = ap (λ (b : Bool). cond b (Some position) None) e
no_more test position (x ∷ cs) c e = ap (λ (o : Option ℕ). cond (test x) (Some position) o) (no_more test (position + 1) cs c e)

none_same : (r : Option RequestId) → same_request r None ≡ false
none_same None = refl
none_same (Some r) = refl

no_repeat : (r : Option RequestId) (c : CertifiedItem) → c.request ≡ None → repeats r c ≡ false
no_repeat r c e = ap (λ (b : Bool). is_commit c.verdict && b) (ap (same_request r) e ∙ none_same r) ∙ by_test (is_commit c.verdict)
  where
    by_test : (b : Bool) → (b && false) ≡ false
    by_test true = refl
    by_test false = refl

-- a position that is found is one of these
within : (test : CertifiedItem → Bool) (position : ℕ) (cs : List CertifiedItem) (k : ℕ) → first_position test position cs ≡ Some k → (position ≤ k) × (k < position + length cs)
unfolding first_position
within test position [] k e = absurd cc
within test position (c ∷ cs) k e = elim (test c) as (λ b. cond b (Some position) (first_position test (position + 1) cs) ≡ Some k → (position ≤ k) × (k < position + length (c ∷ cs))) [
  | true ↦ λ h. let same : position ≡ k = cc in (omega arith, omega arith)
  | false ↦ λ h. let later = within test (position + 1) cs k h in (omega (arith, later.0), omega (arith, later.1))
] e

-- one more than these
one_more : {X : Type 0} (xs : List X) → length xs ≡ 1 → (x : X) × (xs ≡ x ∷ [])
one_more [] e = absurd (omega (arith, e))
one_more (x ∷ []) e = (x, refl)
one_more (x ∷ y ∷ xs) e = absurd (omega (arith, e))

at_end : {X : Type 0} (xs : List X) (x : X) → slice_get (xs ++ x ∷ []) (length xs) ≡ Some x
at_end [] x = refl
at_end (y ∷ xs) x = at_end xs x

last_carries : (cs past : List CertifiedItem) (c found : CertifiedItem) (n : ℕ) → cs ≡ past ++ c ∷ [] → length past ≡ n → slice_get cs n ≡ Some found → c.request ≡ found.request
last_carries cs past c found n split count there = same (sym (at_end past c) ∙ ap (slice_get (past ++ c ∷ [])) count ∙ ap (λ (xs : List CertifiedItem). slice_get xs n) (sym split) ∙ there)
  where
    same : Some c ≡ Some found → c.request ≡ found.request
    same e = ap (λ (x : CertifiedItem). x.request) (let is : c ≡ found = cc in is)

get_first : {X : Type 0} (xs ys : List X) (k : ℕ) → k < length xs → slice_get (xs ++ ys) k ≡ slice_get xs k
get_first [] ys k lt = absurd (omega (arith, lt))
get_first (x ∷ xs) ys zero lt = refl
get_first (x ∷ xs) ys (suc k) lt = get_first xs ys k (omega (arith, lt))

-- ---- an entry of no procedure behind others

module _ (s : SiteSetting) (known : Sessions) (entries : List Entry) (bytes : List ℕ) (is : IsIdle s known entries bytes) where
  abbrev log : Log
  log = items_of entries

  abbrev whole : Log
  whole = items_of (with_bytes s known entries bytes)

  abbrev none : Call
  none = call_of_none (procedures_after s.setting log (length log)) (length log) None

  item_is : item_of (next_entry s known entries bytes) ≡ CallItem none
  item_is = ap item_of is

  pub none_there : slice_get whole (length entries) ≡ Some (CallItem none)
  none_there = item_there entries (next_entry s known entries bytes) ∙ ap Some item_is

  -- the one more that is certified carries no request
  certified_there : IsLog whole → (c : CertifiedItem) × ((history s.setting whole).certified ≡ (history s.setting log).certified ++ c ∷ []) × (c.request ≡ None)
  certified_there is_log =
      let g = grown s.setting log (item_of (next_entry s known entries bytes) ∷ []) in
      let long = length-map entries item_of in
      let grows : (history s.setting whole).certified ≡ (history s.setting log).certified ++ g.certified =
      ap (λ (l : Log). (history s.setting l).certified) (items_snoc entries (next_entry s known entries bytes)) ∙ g.certified_is in
      let behind : length whole ≡ length log + 1 = ap length (items_snoc entries (next_entry s known entries bytes)) ∙ length-append log (item_of (next_entry s known entries bytes) ∷ []) in
      let sum : length (history s.setting whole).certified ≡ length (history s.setting log).certified + length g.certified = ap length grows ∙ length-append (history s.setting log).certified g.certified in
      let (c, only) = one_more g.certified (omega (arith, behind, sum, count_history s.setting log, count_history s.setting whole)) in
      let split = grows ∙ ap (λ (cs : List CertifiedItem). (history s.setting log).certified ++ cs) only in
      let count : length (history s.setting log).certified ≡ length entries = count_history s.setting log ∙ long in
      let same = last_carries (history s.setting whole).certified (history s.setting log).certified c _ (length entries) split count (certified_is s.setting whole (length entries) none is_log none_there) in
      (c, split, same)

  pub request_stays : IsLog whole → (r : Option RequestId) → option_map (with_reply s (with_bytes s known entries bytes) r) (done_at s.setting.beginning.requests (history s.setting whole).certified r)
      ≡ option_map (with_reply s entries r) (done_at s.setting.beginning.requests (history s.setting log).certified r)
  request_stays is_log r =
      elim (was_done s.setting.beginning.requests r) as (λ b. option_map (with_reply s (with_bytes s known entries bytes) r) (cond b (Some 0) (first_position (repeats r) 1 (history s.setting whole).certified))
      ≡ option_map (with_reply s entries r) (cond b (Some 0) (first_position (repeats r) 1 (history s.setting log).certified))) [
        | true ↦ refl
        | false ↦
            let (c, split, carries) = certified_there is_log in
            ap (λ (cs : List CertifiedItem). option_map (with_reply s (with_bytes s known entries bytes) r) (first_position (repeats r) 1 cs)) split
            ∙ ap (option_map (with_reply s (with_bytes s known entries bytes) r)) (no_more (repeats r) 1 (history s.setting log).certified c (no_repeat r c carries))
            ∙ by_position (first_position (repeats r) 1 (history s.setting log).certified) refl
      ]
    where
      by_position : (o : Option ℕ) → first_position (repeats r) 1 (history s.setting log).certified ≡ o
          → option_map (with_reply s (with_bytes s known entries bytes) r) o ≡ option_map (with_reply s entries r) o
      by_position None e = refl
      by_position (Some zero) e =
          let found = within (repeats r) 1 (history s.setting log).certified zero e in
          absurd (omega (arith, found.0, found.1))
      by_position (Some (suc k)) e =
          let found = within (repeats r) 1 (history s.setting log).certified (suc k) e in
          let lt : k < length entries = omega (arith, found.0, found.1, count_history s.setting log, length-map entries item_of) in
          ap (λ (x : Option Entry). Some (suc k, reply_in x)) (get_first entries (next_entry s known entries bytes ∷ []) k lt)

  -- it writes nothing, however the log goes on
  pub writes_nothing : (more : Log) → (run_in s.setting (log ++ more) none).writes ≡ empty
  writes_nothing more = ap (λ (r : Run). r.writes) (run_grown s.setting log more none (omega arith) ∙ runs_none s.setting log (length log) None)

-- ---- what is in conflict

conflict_by : (replies : ℕ → ℕ) (c : EntryOutcome) (position : ℕ) (v : Verdict) → (c ≡ outcome.Conflict position → ⊥) → outcome_by replies c (Some v) ≡ outcome.Conflict position → v ≡ verdict.Conflict position
conflict_by replies c position verdict.Commit isnt e = absurd (isnt e)
conflict_by replies c position (verdict.Conflict n) isnt e = cc
conflict_by replies c position verdict.Stale isnt e = absurd cc
conflict_by replies c position (verdict.Repeated n) isnt e = absurd cc
conflict_by replies c position (verdict.Taken i) isnt e = absurd cc

never_on_addition : (ps : Catalogue) (p : StoredProcedure) (position : ℕ) → verdict_on_addition ps p ≡ verdict.Conflict position → ⊥
never_on_addition ps p position = by_tests (is_some (by_name ps p.name)) (is_some (by_number ps p.number))
  where
    by_tests : (a b : Bool) → cond a (verdict.Taken Name) (cond b (verdict.Taken Number) verdict.Commit) ≡ verdict.Conflict position → ⊥
    by_tests true b e = absurd cc
    by_tests false true e = absurd cc
    by_tests false false e = absurd cc

module _ (s : SiteSetting) (known : Sessions) (entries : List Entry) (bytes : List ℕ) where
  abbrev behind : Log
  behind = items_of (with_bytes s known entries bytes)

  pub conflict_from : HaveVerdicts → IsLog behind → (position : ℕ) → outcome_behind s known entries bytes ≡ outcome.Conflict position
      → (call : Call) × (slice_get behind (length entries) ≡ Some (CallItem call)) × (verdict_of s.setting behind (suc (length entries)) ≡ Some (verdict.Conflict position))
  conflict_from verdicts is_log position told =
      let (v, at) = last_verdict s known entries bytes verdicts in
      by_standing v at (standing s known (items_of entries) bytes) refl
    where
      there : (st : Standing) → standing s known (items_of entries) bytes ≡ st → slice_get behind (length entries) ≡ Some (item_of (entry_standing s.setting (items_of entries) st))
      there st is = item_there entries (next_entry s known entries bytes) ∙ ap (λ (x : Standing). Some (item_of (entry_standing s.setting (items_of entries) x))) is

      by_standing : (v : Verdict) → verdict_of s.setting behind (suc (length entries)) ≡ Some v → (st : Standing) → standing s known (items_of entries) bytes ≡ st
          → (call : Call) × (slice_get behind (length entries) ≡ Some (CallItem call)) × (verdict_of s.setting behind (suc (length entries)) ≡ Some (verdict.Conflict position))
      by_standing v at (StandsAs (CallEntry e)) is =
          (e.call, there (StandsAs (CallEntry e)) is, at ∙ ap Some (conflict_by (replies_to s (with_bytes s known entries bytes) bytes) (outcome.Committed e.reply) position v (λ x. absurd cc) (sym (at_last s known entries bytes v at (StandsAs (CallEntry e)) is) ∙ told)))
      by_standing v at (StandsAs (AdditionEntry p)) is =
          let conflict = conflict_by (replies_to s (with_bytes s known entries bytes) bytes) (outcome.Added p.number) position v (λ x. absurd cc) (sym (at_last s known entries bytes v at (StandsAs (AdditionEntry p)) is) ∙ told) in
          let known = ap (option_map (λ (c : CertifiedItem). c.verdict)) (addition_is s.setting behind (length entries) p is_log (there (StandsAs (AdditionEntry p)) is)) in
          absurd (never_on_addition (procedures_after s.setting behind (length entries)) p position (same_verdict _ v (sym known ∙ at) ∙ conflict))
        where
          same_verdict : (a b : Verdict) → Some a ≡ Some b → a ≡ b
          same_verdict a b e = cc
      by_standing v at (IsDecided call) is =
          (_, there (IsDecided call) is, at ∙ ap Some (conflict_by (replies_to s (with_bytes s known entries bytes) bytes) outcome.Stale position v (λ x. absurd cc) (sym (at_last s known entries bytes v at (IsDecided call) is) ∙ told)))
      by_standing v at (OpensSession session) is = absurd (subst ChangesNothing (sym (at_last s known entries bytes v at (OpensSession session) is) ∙ told) tt)
      by_standing v at (IsNothing c) is = absurd (subst ChangesNothing (sym (at_last s known entries bytes v at (IsNothing c) is) ∙ told) tt)

-- entries that go on from those behind what changes nothing, and one byte string more
pub never_in_conflict : (s : SiteSetting) (known now : Sessions) (entries later all : List Entry) (nothing bytes : List ℕ) → HaveVerdicts → ConflictMeans → all ≡ with_bytes s known entries nothing ++ later
    → IsLog (items_of (with_bytes s now all bytes)) → IsIdle s known entries nothing → outcome_behind s now all bytes ≡ outcome.Conflict (suc (length entries)) → ⊥
never_in_conflict s known now entries later all nothing bytes verdicts means goes is_log is told =
    let w = s.setting in
    let whole = items_of (with_bytes s now all bytes) in
    let first = items_of (with_bytes s known entries nothing) in
    let log = items_of entries in
    let (call, there, v) = conflict_from s now all bytes verdicts is_log (suc (length entries)) told in
    let (new, window, least) = (means w whole (length all) call (suc (length entries)) is_log there).0 v in
    let wrote = least.is.wrote in
    let place : wrote.before ≡ length entries = omega (arith, wrote.place) in
    let item = item_of (next_entry s known entries nothing) in
    let rest = items_of later ++ item_of (next_entry s now all bytes) ∷ [] in
    let split : whole ≡ first ++ rest = items_go_on s known now entries all later nothing bytes goes in
    let on : whole ≡ log ++ (item ∷ rest) = split ∙ ap (λ (l : Log). l ++ rest) (items_snoc entries (next_entry s known entries nothing)) ∙ append_assoc log (item ∷ []) rest in
    let inside : length entries < length first = omega (arith, length-map (with_bytes s known entries nothing) item_of, length-append entries (next_entry s known entries nothing ∷ [])) in
    let none = call_of_none (procedures_after w log (length log)) (length log) None in
    let none_is : slice_get whole (length entries) ≡ Some (CallItem none) = ap (λ (l : Log). slice_get l (length entries)) split ∙ get_before first rest (length entries) inside ∙ none_there s known entries nothing is in
    let same : wrote.call ≡ none = same_call wrote.call none (sym (ap (slice_get whole) (sym place) ∙ wrote.stands) ∙ none_is) in
    let writes : (run_in w whole wrote.call).writes ≡ empty =
    ap (λ (c : Call). (run_in w whole c).writes) same ∙ ap (λ (l : Log). (run_in w l none).writes) on ∙ writes_nothing s known entries nothing is (item ∷ rest) in
    none_written (run_in w whole wrote.call).writes wrote.key writes wrote.written
  where
    same_call : (a b : Call) → Some (CallItem a) ≡ Some (CallItem b) → a ≡ b
    same_call a b e = cc

    none_written : (ws : Writes) (key : Key) → ws ≡ empty → IsSome (get ws key) → ⊥
    none_written ws key none written = absurd (let bad : false ≡ true = ap is_some (sym (get-empty key_cmp key)) ∙ ap (λ (xs : Writes). is_some (get xs key)) (sym none) ∙ written in cc)
