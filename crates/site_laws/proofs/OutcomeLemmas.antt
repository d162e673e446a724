-- What stands where a byte string commits, adds a procedure, or changes nothing.
use Rattle.std.proofs.Common.{◌≡◌, ℕ, suc, ◌+◌, Bool, true, false, ◌&&◌, nat_le, cond, List, length, Option, Some, None, refl, sym, ap, subst, ◌∙◌, arith}
use Rattle.std.proofs.lemmas.Bool.Decides.{nat_tests}
use Rattle.schema.specs.declared.limits.TheConstants.{MAX_ARGUMENTS}
use Rattle.log_model.specs.declared.verdict.Verdict.{Verdict}
use Rattle.log_model.specs.declared.verdict.Verdict.TheVariants as verdict
use Rattle.log_model.specs.Log.{StoredProcedure, Call, Log, procedures_after, verdict_of}
use Rattle.log_model.specs.Entries.{Entry, CallEntry, AdditionEntry, items_of}
use Rattle.log_model.specs.Name.{is_name}
use Rattle.program_checks.specs.ProgramCheck.{ProgramCheck, Passed, Failed}
use Rattle.program_checks.specs.Check.{check_of}
use Rattle.log_entry.specs.Head.{NamedProcedure, AdditionHead, CallHead, head_of}
use Rattle.site_model.specs.declared.cause.NothingCause.TheVariants as cause
use Rattle.site_model.specs.declared.outcome.EntryOutcome.{EntryOutcome}
use Rattle.site_model.specs.declared.outcome.EntryOutcome.TheVariants as outcome
use Rattle.site_model.specs.Sessions.{Sessions, session_cause, session_opened}
use Rattle.site_model.specs.Standing.{SiteSetting, Standing, StandsAs, IsDecided, OpensSession, IsNothing, addition_standing, checked_standing, executed, is_decided, standing}
use Rattle.site_model.specs.Order.{replies_to, committed_outcome, entry_of_none, entry_standing, next_entry, outcome_behind, outcome_by, outcome_of, with_bytes}
use Rattle.site_model.specs.Answer.{stored_as}
use Rattle.site_model.proofs.StandingLemmas.{addition_cases, call_cases, stands_as_addition, stands_as_call, standing_cases}
use Rattle.site_laws.specs.Added.{NamesProcedure}
use Rattle.site_laws.specs.Nothing.{ChangesNothing}
use Rattle.site_laws.proofs.LogLemmas.{HaveVerdicts, at_last, by_commit, commits_with, last_verdict}
use Rattle.site_laws.proofs.SettledLemmas.{stands_by}

-- ---- an addition

added_same : (q p : StoredProcedure) → StandsAs (AdditionEntry q) ≡ StandsAs (AdditionEntry p) → p ≡ q
added_same q p e = cc

named_by : (s : SiteSetting) (bytes : List ℕ) (n : NamedProcedure) (p : StoredProcedure) → head_of bytes ≡ Some (AdditionHead n) → addition_standing s n ≡ StandsAs (AdditionEntry p) → NamesProcedure s bytes p
named_by s bytes n p head =
    by_tests s.takes_additions refl (is_name n.name) refl (nat_le n.args_len MAX_ARGUMENTS) refl (check_of s.setting.tables n.args_len n.bytes) refl
  where
    by_tests : (a : Bool) → s.takes_additions ≡ a → (b : Bool) → is_name n.name ≡ b → (c : Bool) → nat_le n.args_len MAX_ARGUMENTS ≡ c → (r : ProgramCheck) → check_of s.setting.tables n.args_len n.bytes ≡ r
        → cond (a && (b && c)) (checked_standing n r) (IsNothing cause.Addition) ≡ StandsAs (AdditionEntry p) → NamesProcedure s bytes p
    by_tests false ea b eb c ec r er e = absurd cc
    by_tests true ea false eb c ec r er e = absurd cc
    by_tests true ea true eb false ec r er e = absurd cc
    by_tests true ea true eb true ec (Failed fault) er e = absurd cc
    by_tests true ea true eb true ec (Passed program) er e = record {
      taken = ea;
      named = n;
      head = head;
      name = eb;
      arguments = grind (arith, nat_tests);
      program = program;
      accepted = er;
      is = added_same (stored_as n program) p e;
    }

pub names_by : (s : SiteSetting) (known : Sessions) (log : Log) (bytes : List ℕ) (p : StoredProcedure) → standing s known log bytes ≡ StandsAs (AdditionEntry p) → NamesProcedure s bytes p
names_by s known log bytes p = standing_cases Names s known log bytes (λ c e. absurd cc) (λ session _ e. absurd cc)
    (λ call reply head. call_cases Names s known log call bytes (λ c e. absurd cc) (λ _ _ _ e. absurd cc) (λ _ e. absurd cc))
    (λ n head e. named_by s bytes n p head e)
  where
    Names : Standing → Type 0
    Names st = st ≡ StandsAs (AdditionEntry p) → NamesProcedure s bytes p

pub stands_named : (s : SiteSetting) (known : Sessions) (log : Log) (bytes : List ℕ) (p : StoredProcedure) → NamesProcedure s bytes p → standing s known log bytes ≡ StandsAs (AdditionEntry p)
stands_named s known log bytes p names =
    let n = names.named in
    let few = names.arguments in
    let within : nat_le n.args_len MAX_ARGUMENTS ≡ true = grind (arith, nat_tests) in
    let tests : (s.takes_additions && (is_name n.name && nat_le n.args_len MAX_ARGUMENTS)) ≡ true = λ i. names.taken i && (names.name i && within i) in
    stands_as_addition s known log bytes n names.head
    ∙ ap (λ (b : Bool). cond b (checked_standing n (check_of s.setting.tables n.args_len n.bytes)) (IsNothing cause.Addition)) tests
    ∙ ap (checked_standing n) names.accepted
    ∙ ap (λ (q : StoredProcedure). StandsAs (AdditionEntry q)) (sym names.is)

-- ---- by what is said

-- the last call commits
pub record CommitsAs (s : SiteSetting) (known : Sessions) (entries : List Entry) (bytes : List ℕ) (call : Call) (told : ℕ) : Type 0 where
  pub head : head_of bytes ≡ Some (CallHead call told)
  pub stands : standing s known (items_of entries) bytes ≡ StandsAs (CallEntry (executed s.setting (items_of entries) call))
  pub in_session : session_cause s.origin known call.request ≡ None

-- it takes its position in the log as a call of no procedure without a request
abbrev pub IsIdle : SiteSetting → Sessions → List Entry → List ℕ → Type 0
IsIdle s known entries bytes =
    next_entry s known entries bytes ≡ entry_of_none (procedures_after s.setting (items_of entries) (length (items_of entries))) (length (items_of entries)) None

never_committed : (replies : ℕ → ℕ) (number : ℕ) (v : Option Verdict) (reply : ℕ) → outcome_by replies (outcome.Added number) v ≡ outcome.Committed reply → ⊥
never_committed replies number None reply e = absurd cc
never_committed replies number (Some v) reply e =
    let same = (by_commit replies (outcome.Added number) (outcome.Committed reply) v tt e).1 in
    absurd cc

never_added : (replies : ℕ → ℕ) (c : EntryOutcome) (number : ℕ) (v : Verdict) → (c ≡ outcome.Added number → ⊥) → outcome_by replies c (Some v) ≡ outcome.Added number → ⊥
never_added replies c number v isnt e = isnt (by_commit replies c (outcome.Added number) v tt e).1

adds : (replies : ℕ → ℕ) (told number : ℕ) (v : Verdict) → outcome_by replies (outcome.Added told) (Some v) ≡ outcome.Added number → (v ≡ verdict.Commit) × (told ≡ number)
adds replies told number v = commits_with replies outcome.Added (λ a b e. cc) told number v tt

module _ (s : SiteSetting) (known : Sessions) (entries : List Entry) (bytes : List ℕ) where
  abbrev all : List Entry
  all = with_bytes s known entries bytes

  abbrev log : Log
  log = items_of entries

  abbrev v : Option Verdict
  v = verdict_of s.setting (items_of all) (length entries + 1)

  pub committed_from : (reply : ℕ) → outcome_behind s known entries bytes ≡ outcome.Committed reply → (call : Call) × (told : ℕ) × CommitsAs s known entries bytes call told
  committed_from reply commits = standing_cases Commits s known log bytes (λ c e. absurd cc) (λ session _ e. absurd cc)
      (λ call told head e.
      let stands = stands_by s known log call bytes (replies_to s all bytes) v reply e in
      (call, told, record { head = head; stands = stands_as_call s known log bytes call told head ∙ stands.stands; in_session = stands.in_session }))
      (λ n head. addition_cases Commits s n (λ c e. absurd cc) (λ q _ e. absurd (never_committed (replies_to s all bytes) q.number v reply e)))
      commits
    where
      Commits : Standing → Type 0
      Commits st = outcome_of (replies_to s all bytes) st v ≡ outcome.Committed reply → (call : Call) × (told : ℕ) × CommitsAs s known entries bytes call told

  -- what commits was neither repeated nor stale
  pub undecided_from : (call : Call) (told reply : ℕ) → head_of bytes ≡ Some (CallHead call told) → outcome_behind s known entries bytes ≡ outcome.Committed reply → is_decided s.setting (items_of entries) call ≡ false
  undecided_from call told reply head commits =
      call_cases Undecided s known log call bytes (λ c e. absurd cc) (λ _ _ _ e. absurd (never_stale v e)) (λ well e. well.undecided)
      (sym (ap (λ (st : Standing). outcome_of (replies_to s all bytes) st v) (stands_as_call s known log bytes call told head)) ∙ commits)
    where
      Undecided : Standing → Type 0
      Undecided st = outcome_of (replies_to s all bytes) st v ≡ outcome.Committed reply → is_decided s.setting log call ≡ false

      never_stale : (v : Option Verdict) → outcome_by (replies_to s all bytes) outcome.Stale v ≡ outcome.Committed reply → ⊥
      never_stale None e = cc
      never_stale (Some verdict.Commit) e = cc
      never_stale (Some (verdict.Conflict n)) e = cc
      never_stale (Some verdict.Stale) e = cc
      never_stale (Some (verdict.Repeated n)) e = cc
      never_stale (Some (verdict.Taken i)) e = cc

  -- a session that is opened
  pub opened_from : (session : ℕ) → outcome_behind s known entries bytes ≡ outcome.Session session → session_opened s.origin known.opened bytes ≡ Some session
  opened_from session opens = standing_cases Opens s known log bytes (λ c e. absurd cc) (λ given is e. is ∙ (let same : given ≡ session = cc in ap Some same))
      (λ call told head. call_cases Opens s known log call bytes (λ c e. absurd cc) (λ _ _ _ e. absurd (never_opened outcome.Stale v (λ x. cc) e)) (λ _ e. absurd (never_opened (outcome.Committed (executed s.setting log call).reply) v (λ x. cc) e)))
      (λ n head. addition_cases Opens s n (λ c e. absurd cc) (λ q _ e. absurd (never_opened (outcome.Added q.number) v (λ x. cc) e)))
      opens
    where
      Opens : Standing → Type 0
      Opens st = outcome_of (replies_to s all bytes) st v ≡ outcome.Session session → session_opened s.origin known.opened bytes ≡ Some session

      never_opened : (c : EntryOutcome) (v : Option Verdict) → (c ≡ outcome.Session session → ⊥) → outcome_by (replies_to s all bytes) c v ≡ outcome.Session session → ⊥
      never_opened c None isnt e = isnt e
      never_opened c (Some verdict.Commit) isnt e = isnt e
      never_opened c (Some (verdict.Conflict n)) isnt e = cc
      never_opened c (Some verdict.Stale) isnt e = cc
      never_opened c (Some (verdict.Repeated n)) isnt e = cc
      never_opened c (Some (verdict.Taken i)) isnt e = cc

  -- a procedure that is added
  pub added_from : HaveVerdicts → (number : ℕ) → outcome_behind s known entries bytes ≡ outcome.Added number
      → (p : StoredProcedure) × (standing s known (items_of entries) bytes ≡ StandsAs (AdditionEntry p)) × (verdict_of s.setting (items_of all) (suc (length entries)) ≡ Some verdict.Commit) × (p.number ≡ number)
  added_from verdicts number told =
      let (v, at) = last_verdict s known entries bytes verdicts in
      by_standing v at (standing s known (items_of entries) bytes) refl
    where
      by_standing : (v : Verdict) → verdict_of s.setting (items_of all) (suc (length entries)) ≡ Some v → (st : Standing) → standing s known (items_of entries) bytes ≡ st
          → (p : StoredProcedure) × (standing s known (items_of entries) bytes ≡ StandsAs (AdditionEntry p)) × (verdict_of s.setting (items_of all) (suc (length entries)) ≡ Some verdict.Commit) × (p.number ≡ number)
      by_standing v at (StandsAs (CallEntry e)) is = absurd (never_added (replies_to s all bytes) (outcome.Committed e.reply) number v (λ x. absurd cc) (sym (at_last s known entries bytes v at (StandsAs (CallEntry e)) is) ∙ told))
      by_standing v at (StandsAs (AdditionEntry p)) is =
          let (commit, same) = adds (replies_to s all bytes) p.number number v (sym (at_last s known entries bytes v at (StandsAs (AdditionEntry p)) is) ∙ told) in
          (p, is, at ∙ ap Some commit, same)
      by_standing v at (IsDecided call) is = absurd (never_added (replies_to s all bytes) outcome.Stale number v (λ x. absurd cc) (sym (at_last s known entries bytes v at (IsDecided call) is) ∙ told))
      by_standing v at (OpensSession session) is = absurd (subst ChangesNothing (sym (at_last s known entries bytes v at (OpensSession session) is) ∙ told) tt)
      by_standing v at (IsNothing c) is = absurd (subst ChangesNothing (sym (at_last s known entries bytes v at (IsNothing c) is) ∙ told) tt)

  -- what changes nothing is a call of no procedure in the log
  pub idle_from : HaveVerdicts → ChangesNothing (outcome_behind s known entries bytes) → IsIdle s known entries bytes
  idle_from verdicts told =
      let (v, at) = last_verdict s known entries bytes verdicts in
      by_standing v at (standing s known (items_of entries) bytes) refl
    where
      never_idle : (c : EntryOutcome) (v : Verdict) → (ChangesNothing c → ⊥) → ChangesNothing (outcome_by (replies_to s all bytes) c (Some v)) → ⊥
      never_idle c verdict.Commit isnt e = isnt e
      never_idle c (verdict.Conflict n) isnt e = e
      never_idle c verdict.Stale isnt e = e
      never_idle c (verdict.Repeated n) isnt e = e
      never_idle c (verdict.Taken i) isnt e = e

      committed_is_not : (e : Entry) → ChangesNothing (committed_outcome e) → ⊥
      committed_is_not (CallEntry e) x = x
      committed_is_not (AdditionEntry p) x = x

      by_standing : (v : Verdict) → verdict_of s.setting (items_of all) (suc (length entries)) ≡ Some v → (st : Standing) → standing s known (items_of entries) bytes ≡ st → IsIdle s known entries bytes
      by_standing v at (StandsAs e) is = absurd (never_idle (committed_outcome e) v (committed_is_not e) (subst ChangesNothing (at_last s known entries bytes v at (StandsAs e) is) told))
      by_standing v at (IsDecided call) is = absurd (never_idle outcome.Stale v (λ x. x) (subst ChangesNothing (at_last s known entries bytes v at (IsDecided call) is) told))
      by_standing v at (OpensSession session) is = ap (entry_standing s.setting (items_of entries)) is
      by_standing v at (IsNothing c) is = ap (entry_standing s.setting (items_of entries)) is
