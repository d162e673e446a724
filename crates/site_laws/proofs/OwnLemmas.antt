-- What a site gave to be ordered stands, is decided, or is superseded.
use Rattle.std.proofs.Common.{◌≡◌, ℕ, ◌+◌, ◌==◌, ◌≤◌, Bool, true, false, not, ◌&&◌, nat_le, cond, is_some, List, ◌++◌, length, Option, Some, None, refl, sym, ap, subst, ◌∙◌, arith}
use Rattle.std.specs.FinMap.{len}
use Rattle.std.specs.Str.{bytes_eq}
use Rattle.std.proofs.lemmas.Bool.Decides.{nat_tests}
use Rattle.std.proofs.lemmas.Slice.Eq.{bytes_eq-Decides}
use Rattle.std.proofs.lemmas.List.{length-append, length-map, map-append}
use Rattle.bpf_semantics.specs.Run.{Run}
use Rattle.log_model.specs.declared.verdict.Verdict.{Verdict}
use Rattle.log_model.specs.declared.verdict.Verdict.TheVariants as verdict
use Rattle.log_model.specs.Log.{StoredProcedure, Catalogue, Setting, Call, Log, by_number, first_repeated, history, procedure_of, procedures_after, run_in, verdict_of}
use Rattle.log_model.specs.Entries.{Entry, ExecutedCall, CallEntry, AdditionEntry, item_of, items_of}
use Rattle.log_model.proofs.GrowthLemmas.{procedures_grown, run_grown}
use Rattle.log_entry.specs.Bytes.{entry_bytes}
use Rattle.bpf_code.specs.Program.{Program}
use Rattle.bpf_bytes.specs.Spelling.{spelling}
use Rattle.schema.specs.declared.limits.TheConstants.{MAX_ARGUMENTS}
use Rattle.log_model.specs.Name.{is_name}
use Rattle.program_checks.specs.ProgramCheck.{Passed}
use Rattle.program_checks.specs.Check.{check_of}
use Rattle.log_entry.specs.Fit.{CallFitsFields, named_procedure}
use Rattle.log_entry.specs.Head.{NamedProcedure, AdditionHead, CallHead, head_of}
use Rattle.log_model.specs.OpenRequest.{has_zero}
use Rattle.site_model.specs.declared.answer.AdditionAnswer.TheVariants as addition
use Rattle.site_model.specs.declared.answer.AdditionRefusal.TheVariants as refusal
use Rattle.site_model.specs.declared.cause.NothingCause.{NothingCause}
use Rattle.site_model.specs.declared.cause.NothingCause.TheVariants as cause
use Rattle.site_model.specs.declared.outcome.EntryOutcome.{EntryOutcome}
use Rattle.site_model.specs.declared.outcome.EntryOutcome.TheVariants as outcome
use Rattle.site_model.specs.declared.answer.CallAnswer.{CallAnswer}
use Rattle.site_model.specs.declared.answer.CallAnswer.TheVariants as call
use Rattle.site_model.specs.Sessions.{Sessions, session_cause}
use Rattle.site_model.specs.Standing.{SiteSetting, Standing, StandsAs, IsDecided, IsNothing, call_standing, executed, is_decided, is_true, request_standing, takes_arguments, writes_something, addition_standing, checked_standing}
use Rattle.site_model.specs.Order.{reply_to, replies_to, Order, order_entries, order_log, outcome_behind, outcome_by, outcome_of, sessions_after, with_bytes}
use Rattle.site_model.specs.Answer.{Asked, answer_for, asked_call, call_answer, in_session, unless_cancelled, unless_repeated, addition_answer, answer_of_check, stored_as}
use Rattle.site_model.specs.Own.{IsAskedOf}
use Rattle.site_model.proofs.StandingLemmas.{stands_as_addition, stands_as_call}
use Rattle.site_laws.proofs.SettledLemmas.{by_admission, settled_answer}

-- ---- what was submitted

-- nothing is against what is to be ordered for its session's sake, its run wrote something, and these are its bytes
pub record Ordered (s : SiteSetting) (known : Sessions) (log : Log) (p : StoredProcedure) (asked : Asked) (bytes : List ℕ) : Type 0 where
  pub in_session : session_cause s.origin known asked.request ≡ None
  pub takes : (p.args_len == length asked.args) ≡ true
  pub whole : has_zero asked.request ≡ false
  pub writes : writes_something (run_in s.setting log (asked_call log p asked)) ≡ true
  pub are : entry_bytes (CallEntry (executed s.setting log (asked_call log p asked))) ≡ bytes

same_bytes : (a b : List ℕ) → call.Submitted a ≡ call.Submitted b → a ≡ b
same_bytes a b e = cc

pub ordered_by : (s : SiteSetting) (known : Sessions) (entries : List Entry) (asked : Asked) (p : StoredProcedure) (bytes : List ℕ) → answer_for s known entries asked (Some p) ≡ call.Submitted bytes → Ordered s known (items_of entries) p asked bytes
ordered_by s known entries asked p bytes =
    by_admission s known entries asked p (λ (answer : CallAnswer (List ℕ)). answer ≡ call.Submitted bytes → Ordered s known log p asked bytes) (λ refusal e. absurd cc)
    (λ fits whole. by_cause (as_long p.args_len (length asked.args) fits) whole (session_cause s.origin known asked.request) refl)
  where
    w : Setting
    w = s.setting

    log : Log
    log = items_of entries

    run : Run
    run = run_in w log (asked_call log p asked)

    own : List ℕ
    own = entry_bytes (CallEntry (executed w log (asked_call log p asked)))

    by_run : session_cause s.origin known asked.request ≡ None → (p.args_len == length asked.args) ≡ true → has_zero asked.request ≡ false → (o code : Option ℕ) → run.cancel_code ≡ code → (none : Bool) → (len run.writes == 0) ≡ none
        → unless_repeated (reply_to w entries asked.request) (unless_cancelled (length log) run own code) o ≡ call.Submitted bytes → Ordered s known log p asked bytes
    by_run inside ea eb (Some position) code ec none en e = absurd cc
    by_run inside ea eb None (Some code) ec none en e = absurd cc
    by_run inside ea eb None None ec true en e =
        absurd (not_read (length log) run.reply bytes (sym (ap (λ (b : Bool). cond b (call.Read (length log) run.reply) (call.Submitted own)) en) ∙ e))
      where
        not_read : (position reply : ℕ) (xs : List ℕ) → call.Read position reply ≡ call.Submitted xs → ⊥
        not_read position reply xs f = absurd cc
    by_run inside ea eb None None ec false en e = record {
      in_session = inside;
      takes = ea;
      whole = eb;
      writes = λ i. not (is_some (ec i)) && not (en i);
      are = same_bytes own bytes (sym (ap (λ (b : Bool). cond b (call.Read (length log) run.reply) (call.Submitted own)) en) ∙ e);
    }

    by_cause : (p.args_len == length asked.args) ≡ true → has_zero asked.request ≡ false → (why : Option NothingCause) → session_cause s.origin known asked.request ≡ why
        → in_session (unless_repeated (reply_to w entries asked.request) (unless_cancelled (length log) run own run.cancel_code) (first_repeated w.beginning.requests (history w log).certified (asked_call log p asked))) why ≡ call.Submitted bytes
        → Ordered s known log p asked bytes
    by_cause ea eb (Some why) is e = absurd cc
    by_cause ea eb None is e = by_run is ea eb (first_repeated w.beginning.requests (history w log).certified (asked_call log p asked)) run.cancel_code refl (len run.writes == 0) refl e

    as_long : (m n : ℕ) → n ≡ m → (m == n) ≡ true
    as_long m n e = grind (arith, nat_tests)

-- ---- behind entries that go on

pub never_nothing : (replies : ℕ → ℕ) (c : EntryOutcome) (cause : NothingCause) (v : Option Verdict) → (c ≡ outcome.Nothing cause → ⊥) → outcome_by replies c v ≡ outcome.Nothing cause → ⊥
never_nothing replies c cause None isnt e = isnt e
never_nothing replies c cause (Some verdict.Commit) isnt e = isnt e
never_nothing replies c cause (Some (verdict.Conflict n)) isnt e = absurd cc
never_nothing replies c cause (Some verdict.Stale) isnt e = absurd cc
never_nothing replies c cause (Some (verdict.Repeated n)) isnt e = absurd cc
never_nothing replies c cause (Some (verdict.Taken i)) isnt e = absurd cc

stale_is_something : (cause : NothingCause) → outcome.Stale ≡ outcome.Nothing cause → ⊥
stale_is_something cause e = absurd cc

reply_is_something : (reply : ℕ) (cause : NothingCause) → outcome.Committed reply ≡ outcome.Nothing cause → ⊥
reply_is_something reply cause e = absurd cc

-- a call that passes the tests, but for what is known of its session
module _ (s : SiteSetting) (known : Sessions) (log : Log) (c : Call) (bytes : List ℕ) (replies : ℕ → ℕ) (v : Option Verdict) (why : NothingCause) (early : nat_le c.snapshot (length log) ≡ true) where
  abbrev w : Setting
  w = s.setting

  by_session : call_standing s known log c bytes ≡ request_standing w log c bytes (session_cause s.origin known c.request)
  by_session = ap (λ (b : Bool). cond (not b) (IsNothing cause.Snapshot) (request_standing w log c bytes (session_cause s.origin known c.request))) early

  -- it is nothing for its session's sake alone
  nothing_for_session : takes_arguments (procedure_of w log c) c.args ≡ true → is_true w log c bytes ≡ true → outcome_of replies (call_standing s known log c bytes) v ≡ outcome.Nothing why
      → session_cause s.origin known c.request ≡ Some why
  nothing_for_session takes is told =
      by_cause (session_cause s.origin known c.request) (sym (ap (λ (st : Standing). outcome_of replies st v) by_session) ∙ told)
    where
      tested : Bool → Bool → Bool → Standing
      tested b t u = cond b (IsDecided c) (cond (not t) (IsNothing cause.Procedure) (cond u (StandsAs (CallEntry (executed w log c))) (IsNothing cause.Untrue)))

      by_decided : (b : Bool) → outcome_of replies (tested b true true) v ≡ outcome.Nothing why → ⊥
      by_decided true e = never_nothing replies outcome.Stale why v (stale_is_something why) e
      by_decided false e = never_nothing replies (outcome.Committed (executed w log c).reply) why v (reply_is_something (executed w log c).reply why) e

      same_cause : (a : NothingCause) → outcome.Nothing a ≡ outcome.Nothing why → a ≡ why
      same_cause a e = cc

      by_cause : (o : Option NothingCause) → outcome_of replies (request_standing w log c bytes o) v ≡ outcome.Nothing why → o ≡ Some why
      by_cause (Some a) e = ap Some (same_cause a e)
      by_cause None e = absurd (by_decided (is_decided w log c) (sym (ap (λ (st : Standing). outcome_of replies st v) (λ i. tested (is_decided w log c) (takes i) (is i))) ∙ e))

  -- and is so where that stands against it
  session_for_nothing : session_cause s.origin known c.request ≡ Some why → outcome_of replies (call_standing s known log c bytes) v ≡ outcome.Nothing why
  session_for_nothing is = ap (λ (st : Standing). outcome_of replies st v) (by_session ∙ ap (request_standing w log c bytes) is)

-- a call that was submitted behind some entries, where they go on: it passes the tests, and runs as it ran
pub record IsOwn (s : SiteSetting) (entries later : List Entry) (bytes : List ℕ) (c : Call) : Type 0 where
  pub head : head_of bytes ≡ Some (CallHead c (executed s.setting (items_of entries) c).reply)
  pub early : nat_le c.snapshot (length (items_of (entries ++ later))) ≡ true
  pub takes : takes_arguments (procedure_of s.setting (items_of (entries ++ later)) c) c.args ≡ true
  pub is : is_true s.setting (items_of (entries ++ later)) c bytes ≡ true
  pub run : run_in s.setting (items_of (entries ++ later)) c ≡ run_in s.setting (items_of entries) c

pub own_is : (s : SiteSetting) (known : Sessions) (entries later : List Entry) (asked : Asked) (p : StoredProcedure) (bytes : List ℕ)
    → by_number (procedures_after s.setting (items_of entries) (length (items_of entries))) p.number ≡ Some p
    → head_of (entry_bytes (CallEntry (executed s.setting (items_of entries) (asked_call (items_of entries) p asked))))
    ≡ Some (CallHead (asked_call (items_of entries) p asked) (executed s.setting (items_of entries) (asked_call (items_of entries) p asked)).reply)
    → answer_for s known entries asked (Some p) ≡ call.Submitted bytes → IsOwn s entries later bytes (asked_call (items_of entries) p asked)
own_is s known entries later asked p bytes numbered head answer =
    let w = s.setting in
    let log = items_of entries in
    let c = asked_call log p asked in
    let all = entries ++ later in
    let o = ordered_by s known entries asked p bytes answer in
    let as_items : items_of all ≡ log ++ items_of later = map-append item_of entries later in
    let run : run_in w (items_of all) c ≡ run_in w log c = ap (λ (l : Log). run_in w l c) as_items ∙ run_grown w log (items_of later) c (omega arith) in
    let le : length log ≤ length (items_of all) = omega (arith, ap length as_items, length-append log (items_of later)) in
    let known : procedure_of w (items_of all) c ≡ Some p =
    ap (λ (l : Log). by_number (procedures_after w l (length log)) p.number) as_items
    ∙ ap (λ (ps : Catalogue). by_number ps p.number) (procedures_grown w log (items_of later) (length log) (omega arith)) ∙ numbered in
    let executed_is : executed w (items_of all) c ≡ executed w log c = ap (λ (r : Run). record { call = c; looks = r.looks; writes = r.writes; reply = r.reply }) run in
    let bytes_are : bytes_eq bytes (entry_bytes (CallEntry (executed w (items_of all) c))) ≡ true =
    (bytes_eq-Decides bytes (entry_bytes (CallEntry (executed w (items_of all) c)))).1 (sym o.are ∙ sym (ap (λ (e : ExecutedCall). entry_bytes (CallEntry e)) executed_is)) in
    record {
      head = ap head_of (sym o.are) ∙ head;
      early = grind (arith, nat_tests);
      takes = ap (λ (q : Option StoredProcedure). takes_arguments q c.args) known ∙ o.takes;
      is = λ i. (ap writes_something run ∙ o.writes) i && bytes_are i;
      run = run;
    }

-- what comes of it is nothing for its session's sake alone
module _ (s : SiteSetting) (now : Sessions) (entries later : List Entry) (bytes : List ℕ) (c : Call) (why : NothingCause) (own : IsOwn s entries later bytes c) where
  abbrev all : List Entry
  all = entries ++ later

  abbrev replies : ℕ → ℕ
  replies = replies_to s (with_bytes s now all bytes) bytes

  abbrev v : Option Verdict
  v = verdict_of s.setting (items_of (with_bytes s now all bytes)) (length all + 1)

  by_call : outcome_behind s now all bytes ≡ outcome_of replies (call_standing s now (items_of all) c bytes) v
  by_call = ap (λ (st : Standing). outcome_of replies st v) (stands_as_call s now (items_of all) bytes c (executed s.setting (items_of entries) c).reply own.head)

  pub own_nothing : outcome_behind s now all bytes ≡ outcome.Nothing why → session_cause s.origin now c.request ≡ Some why
  own_nothing nothing = nothing_for_session s now (items_of all) c bytes replies v why own.early own.takes own.is (sym by_call ∙ nothing)

  pub nothing_own : session_cause s.origin now c.request ≡ Some why → outcome_behind s now all bytes ≡ outcome.Nothing why
  nothing_own is = by_call ∙ session_for_nothing s now (items_of all) c bytes replies v why own.early is

-- ---- behind an order

-- what a lower law says
abbrev pub HaveHeads : Type 0
HaveHeads = (e : ExecutedCall) → CallFitsFields e → head_of (entry_bytes (CallEntry e)) ≡ Some (CallHead e.call e.reply)

module _ (s : SiteSetting) (order : Order) (asked : Asked) (bytes : List ℕ) (is : IsAskedOf s order asked) (submitted : call_answer s order asked ≡ call.Submitted bytes) where
  abbrev log : Log
  log = order_log s order

  answer : answer_for s (sessions_after s order) (order_entries s order) asked (Some is.procedure) ≡ call.Submitted bytes
  answer = sym (settled_answer s order asked ∙ ap (answer_for s (sessions_after s order) (order_entries s order) asked) is.named) ∙ submitted

  pub submitted_in_session : session_cause s.origin (sessions_after s order) asked.request ≡ None
  submitted_in_session = (ordered_by s (sessions_after s order) (order_entries s order) asked is.procedure bytes answer).in_session

  pub submitted_is_own : HaveHeads → (later : List Entry) → IsOwn s (order_entries s order) later bytes (asked_call log is.procedure asked)
  submitted_is_own heads later =
      own_is s (sessions_after s order) (order_entries s order) later asked is.procedure bytes
      (subst (λ (n : ℕ). by_number (procedures_after s.setting log n) is.procedure.number ≡ Some is.procedure) (sym (length-map (order_entries s order) item_of)) is.numbered)
      (heads (executed s.setting log (asked_call log is.procedure asked)) is.fits) answer

-- ---- additions

-- what was submitted of a procedure whose program passes its check
pub record AddedAs (s : SiteSetting) (p : NamedProcedure) (program : Program) (bytes : List ℕ) : Type 0 where
  pub named : is_name p.name ≡ true
  pub takes : s.takes_additions ≡ true
  pub are : entry_bytes (AdditionEntry (stored_as p program)) ≡ bytes

same_added : (a b : List ℕ) → addition.Submitted a ≡ addition.Submitted b → a ≡ b
same_added a b e = cc

pub added_by : (s : SiteSetting) (p : NamedProcedure) (program : Program) (bytes : List ℕ) → answer_of_check s p (Passed program) ≡ addition.Submitted bytes → AddedAs s p program bytes
added_by s p program bytes = by_tests (is_name p.name) refl s.takes_additions refl
  where
    own : List ℕ
    own = entry_bytes (AdditionEntry (stored_as p program))

    by_tests : (a : Bool) → is_name p.name ≡ a → (b : Bool) → s.takes_additions ≡ b
        → cond (not a) (addition.Refused refusal.Name) (cond (not b) (addition.Refused refusal.NoAdditions) (addition.Submitted own)) ≡ addition.Submitted bytes → AddedAs s p program bytes
    by_tests false ea b eb e = absurd cc
    by_tests true ea false eb e = absurd cc
    by_tests true ea true eb e = record { named = ea; takes = eb; are = same_added own bytes e }

added_is_something : (number : ℕ) (why : NothingCause) → outcome.Added number ≡ outcome.Nothing why → ⊥
added_is_something number why e = absurd cc

pub own_addition_stands : (s : SiteSetting) (known : Sessions) (entries : List Entry) (p : NamedProcedure) (program : Program) (bytes : List ℕ) (why : NothingCause) → p.args_len ≤ MAX_ARGUMENTS → check_of s.setting.tables p.args_len p.bytes ≡ Passed program
    → spelling program ≡ p.bytes → head_of (entry_bytes (AdditionEntry (stored_as p program))) ≡ Some (AdditionHead (named_procedure (stored_as p program)))
    → addition_answer s p ≡ addition.Submitted bytes → outcome_behind s known entries bytes ≡ outcome.Nothing why → ⊥
own_addition_stands s known entries p program bytes why few passes spelled head answer nothing =
    let added = added_by s p program bytes (sym (ap (answer_of_check s p) passes) ∙ answer) in
    let same : named_procedure (stored_as p program) ≡ p = ap (λ (xs : List ℕ). record { number = p.number; args_len = p.args_len; name = p.name; bytes = xs }) spelled in
    let same_head : head_of bytes ≡ Some (AdditionHead p) = ap head_of (sym added.are) ∙ head ∙ ap (λ (q : NamedProcedure). Some (AdditionHead q)) same in
    let within : nat_le p.args_len MAX_ARGUMENTS ≡ true = grind (arith, nat_tests) in
    let tests : (s.takes_additions && (is_name p.name && nat_le p.args_len MAX_ARGUMENTS)) ≡ true = λ i. added.takes i && (added.named i && within i) in
    let stands : addition_standing s p ≡ StandsAs (AdditionEntry (stored_as p program)) =
    ap (λ (b : Bool). cond b (checked_standing p (check_of s.setting.tables p.args_len p.bytes)) (IsNothing cause.Addition)) tests ∙ ap (checked_standing p) passes in
    let v = verdict_of s.setting (items_of (with_bytes s known entries bytes)) (length entries + 1) in
    never_nothing (replies_to s (with_bytes s known entries bytes) bytes) (outcome.Added p.number) why v (added_is_something p.number why)
    (sym (ap (λ (st : Standing). outcome_of (replies_to s (with_bytes s known entries bytes) bytes) st v) (stands_as_addition s known (items_of entries) bytes p same_head ∙ stands)) ∙ nothing)
