-- Refusals that hold for good.
use Rattle.std.proofs.Common.{◌≡◌, ◌≢◌, ℕ, ◌+◌, ◌==◌, Bool, true, false, not, cond, ◌&&◌, nat_le, List, [], ◌∷◌, length, Option, Some, None, Result, Ok, Err, nat_eq, refl, sym, ap, subst, ◌∙◌, arith}
use Rattle.std.specs.FinMap.{len}
use Rattle.std.proofs.lemmas.Bool.Decides.{nat_tests}
use Rattle.bpf_semantics.specs.Run.{Run}
use Rattle.log_model.specs.OpenRequest.{has_zero}
use Rattle.log_model.specs.Log.{Call, Log, Setting, StoredProcedure, by_name, first_repeated, history, procedure_of, procedures_after, run_in}
use Rattle.log_model.specs.Entries.{Entry, CallEntry, items_of}
use Rattle.log_entry.specs.Bytes.{entry_bytes}
use Rattle.log_entry.specs.Head.{AdditionHead, CallHead, NamedProcedure, addition_head, call_head, call_of, field, head_of, procedure_of as named_procedure_of, request_of}
use Rattle.site_model.specs.declared.answer.CallAnswer.{CallAnswer}
use Rattle.site_model.specs.declared.answer.CallAnswer.TheVariants.{OutOfSession, Read, Refused, Submitted}
use Rattle.log_model.specs.declared.refusal.CallRefusal.{CallRefusal}
use Rattle.log_model.specs.declared.refusal.CallRefusal.TheVariants.{ArgumentsLength, NoProcedure, ZeroInRequest}
use Rattle.log_model.specs.Admission.{admission}
use Rattle.log_model.proofs.AdmissionLemmas.{has_a_zero, is_unfit, is_unknown}
use Rattle.site_model.specs.declared.cause.NothingCause.{NothingCause}
use Rattle.site_model.specs.Sessions.{Sessions, session_cause}
use Rattle.site_model.specs.Standing.{SiteSetting, executed, takes_arguments}
use Rattle.site_model.specs.Order.{reply_to, Order, order_entries, order_log, sessions_after}
use Rattle.site_model.specs.Answer.{Asked, answer_for, answer_of_admission, answer_of_run, asked_call, call_answer, in_session, unless_cancelled, unless_repeated}
use Rattle.site_laws.specs.Orders.{procedures_behind}
use Rattle.site_laws.proofs.SettledLemmas.{settled_answer}

-- ---- answers by the procedure that is found

abbrev pub Count : Type 0
Count = (s : SiteSetting) (order : Order) → length (order_entries s order) ≡ length order

pub answer_is : Count → (s : SiteSetting) (order : Order) (asked : Asked) → call_answer s order asked ≡ answer_for s (sessions_after s order) (order_entries s order) asked (by_name (procedures_behind s order) asked.name)
answer_is count s order asked =
    settled_answer s order asked ∙ ap (λ (n : ℕ). answer_for s (sessions_after s order) (order_entries s order) asked (by_name (procedures_after s.setting (order_log s order) n) asked.name)) (count s order)

-- ---- refusals by their tests

abbrev as_answer : CallRefusal → CallAnswer (List ℕ)
as_answer r = Refused r

abbrev as_error : CallRefusal → Result StoredProcedure CallRefusal
as_error r = Err r

-- what comes of a run is no refusal, nor out of its session
abbrev IsOfRun : CallAnswer (List ℕ) → Type 0
IsOfRun (Refused refusal) = ⊥
IsOfRun OutOfSession = ⊥
IsOfRun answer = Unit {0}

comes_of_run : (replies : ℕ → ℕ) (position : ℕ) (r : Run) (bytes : List ℕ) (code o : Option ℕ) → IsOfRun (unless_repeated replies (unless_cancelled position r bytes code) o)
comes_of_run replies position r bytes code (Some n) = tt
comes_of_run replies position r bytes (Some c) None = tt
comes_of_run replies position r bytes None None = by_count (len r.writes == 0)
  where
    by_count : (b : Bool) → IsOfRun (cond b (Read position r.reply) (Submitted bytes))
    by_count true = tt
    by_count false = tt

abbrev run_answer : Setting → List Entry → Asked → StoredProcedure → CallAnswer (List ℕ)
run_answer w entries asked p =
    unless_repeated (reply_to w entries asked.request) (answer_of_run w (items_of entries) (asked_call (items_of entries) p asked)) (first_repeated w.beginning.requests (history w (items_of entries)).certified (asked_call (items_of entries) p asked))

run_answer_is : (w : Setting) (entries : List Entry) (asked : Asked) (p : StoredProcedure) → IsOfRun (run_answer w entries asked p)
run_answer_is w entries asked p =
    let log = items_of entries in
    let call = asked_call log p asked in
    comes_of_run (reply_to w entries asked.request) call.snapshot (run_in w log call) (entry_bytes (CallEntry (executed w log call))) (run_in w log call).cancel_code (first_repeated w.beginning.requests (history w log).certified call)

-- what is refused wasn't admitted
refused_by : (s : SiteSetting) (known : Sessions) (entries : List Entry) (asked : Asked) (answer : Result StoredProcedure CallRefusal) (refusal : CallRefusal) → answer_of_admission s known entries asked answer ≡ Refused refusal → answer ≡ Err refusal
refused_by s known entries asked (Err r) refusal e = ap Err (refusal_is r refusal e)
  where
    refusal_is : (a b : CallRefusal) → as_answer a ≡ as_answer b → a ≡ b
    refusal_is a b e = cc
refused_by s known entries asked (Ok p) refusal e = by_cause (session_cause s.origin known asked.request) e
  where
    by_cause : (why : Option NothingCause) → in_session (run_answer s.setting entries asked p) why ≡ Refused refusal → Ok p ≡ Err refusal
    by_cause (Some why) e = absurd cc
    by_cause None e = absurd (subst IsOfRun e (run_answer_is s.setting entries asked p))

module _ (s : SiteSetting) (known : Sessions) (entries : List Entry) (asked : Asked) where
  refused_for : (o : Option StoredProcedure) (refusal : CallRefusal) → answer_for s known entries asked o ≡ Refused refusal → admission asked.args asked.request o ≡ Err refusal
  refused_for o refusal e = refused_by s known entries asked (admission asked.args asked.request o) refusal e

  -- something stands against its session's request
  pub out_of_session : (o : Option StoredProcedure) → answer_for s known entries asked o ≡ OutOfSession → (why : NothingCause) × (session_cause s.origin known asked.request ≡ Some why)
  out_of_session o = by_admission (admission asked.args asked.request o)
    where
      by_cause : (p : StoredProcedure) (why : Option NothingCause) → in_session (run_answer s.setting entries asked p) why ≡ OutOfSession → (found : NothingCause) × (why ≡ Some found)
      by_cause p (Some why) e = (why, refl)
      by_cause p None e = absurd (subst IsOfRun e (run_answer_is s.setting entries asked p))

      by_admission : (answer : Result StoredProcedure CallRefusal) → answer_of_admission s known entries asked answer ≡ OutOfSession → (why : NothingCause) × (session_cause s.origin known asked.request ≡ Some why)
      by_admission (Err refusal) e = absurd cc
      by_admission (Ok p) e = by_cause p (session_cause s.origin known asked.request) e

  -- no procedure was found
  pub unknown_by : (o : Option StoredProcedure) → answer_for s known entries asked o ≡ Refused NoProcedure → o ≡ None
  unknown_by o e = is_unknown asked.args asked.request o (refused_for o NoProcedure e)

  -- a refusal asks only what is asked and the procedure
  pub refused_again : (now : Sessions) (others : List Entry) (refusal : CallRefusal) (o : Option StoredProcedure) → answer_for s known entries asked o ≡ Refused refusal → answer_for s now others asked o ≡ Refused refusal
  refused_again now others refusal o e = ap (answer_of_admission s now others asked) (refused_for o refusal e)

  pub wrong_length : (p : StoredProcedure) → answer_for s known entries asked (Some p) ≡ Refused ArgumentsLength → (p.args_len == length asked.args) ≡ false
  wrong_length p e =
      let (q, same, other) = is_unfit asked.args asked.request (Some p) (refused_for (Some p) ArgumentsLength e) in
      apart p.args_len (length asked.args) (λ f. other (f ∙ ap (λ (x : StoredProcedure). x.args_len) (some_is p q same)))
    where
      apart : (m n : ℕ) → (n ≡ m → ⊥) → nat_eq m n ≡ false
      apart m n other = grind (arith, nat_tests)

      some_is : (a b : StoredProcedure) → Some a ≡ Some b → a ≡ b
      some_is a b e = cc

  pub zero_in_request : (o : Option StoredProcedure) → answer_for s known entries asked o ≡ Refused ZeroInRequest → has_zero asked.request ≡ true
  zero_in_request o e = let (p, found, fits, zero) = has_a_zero asked.args asked.request o (refused_for o ZeroInRequest e) in zero

  -- a procedure was found
  pub some_procedure : (o : Option StoredProcedure) (refusal : CallRefusal) → refusal ≢ NoProcedure → answer_for s known entries asked o ≡ Refused refusal → (p : StoredProcedure) × (o ≡ Some p)
  some_procedure None refusal other e = absurd (other (refusal_is refusal (refused_for None refusal e)))
    where
      refusal_is : (r : CallRefusal) → as_error NoProcedure ≡ as_error r → r ≡ NoProcedure
      refusal_is r e = cc
  some_procedure (Some p) refusal other e = (p, refl)

-- ---- heads

-- both of the session and the number of a call that bytes name are 0, or neither
pub heads_are_whole : (bytes : List ℕ) (call : Call) (told : ℕ) → head_of bytes ≡ Some (CallHead call told) → has_zero call.request ≡ false
unfolding head_of
heads_are_whole [] call told e = absurd cc
heads_are_whole (kind ∷ fields) call told e = by_kind (kind == 1) (kind == 2) e
  where
    no_zero : (b : Bool) → not b ≡ true → b ≡ false
    no_zero true e = absurd cc
    no_zero false e = refl

    by_call : (a b : Bool) (c : Call) (r : ℕ) → not (has_zero c.request) ≡ b → cond (a && b) (Some (CallHead c r)) None ≡ Some (CallHead call told) → has_zero call.request ≡ false
    by_call true true c r is e = subst (λ (x : Call). has_zero x.request ≡ false) (let same : c ≡ call = cc in same) (no_zero (has_zero c.request) is)
    by_call true false c r is e = absurd cc
    by_call false b c r is e = absurd cc

    by_addition : (b : Bool) (p : NamedProcedure) → cond b (Some (AdditionHead p)) None ≡ Some (CallHead call told) → has_zero call.request ≡ false
    by_addition true p e = absurd cc
    by_addition false p e = absurd cc

    by_kind : (a b : Bool) → cond a (call_head (field 14 2 fields) fields) (cond b (addition_head (field 4 1 fields) (field (5 + field 4 1 fields) 4 fields) fields) None) ≡ Some (CallHead call told) → has_zero call.request ≡ false
    by_kind true b e =
        by_call (nat_le (28 + field 14 2 fields) (length fields)) (not (has_zero (request_of fields))) (call_of (field 14 2 fields) fields) (field (20 + field 14 2 fields) 8 fields) refl e
    by_kind false true e =
        by_addition (9 + field 4 1 fields + field (5 + field 4 1 fields) 4 fields == length fields) (named_procedure_of (field 4 1 fields) (field (5 + field 4 1 fields) 4 fields) fields) e
    by_kind false false e = absurd cc

-- ---- a procedure that takes other arguments

pub other_arguments : (w : Setting) (log : Log) (call : Call) (p q : StoredProcedure) (args : List ℕ) → procedure_of w log call ≡ Some q → q ≡ p → call.args ≡ args → (p.args_len == length args) ≡ false → takes_arguments (procedure_of w log call) call.args ≡ true → ⊥
other_arguments w log call p q args known same args_are wrong takes =
    absurd (let e : true ≡ false =
    sym takes ∙ ap (λ (o : Option StoredProcedure). takes_arguments o call.args) (known ∙ ap Some same)
    ∙ ap (λ (xs : List ℕ). p.args_len == length xs) args_are ∙ wrong in cc)
