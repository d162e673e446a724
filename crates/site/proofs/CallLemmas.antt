-- What a call that is asked for comes to, test by test.
use Rattle.std.proofs.Common.{◌≡◌, ℕ, ◌<◌, ◌^◌, ◌==◌, Bool, true, false, cond, IsTrue, OnErr, List, length, Option, Some, None, is_some, Result, Ok, Err, option_map, refl, sym, ap, subst, ◌∙◌}
use Rattle.std.proofs.lemmas.List.{length-map}
use Rattle.std.specs.FinMap.{len}
use Rattle.bpf_semantics.specs.Run.{Run}
use Rattle.bpf_verify.specs.Flow.{Procedure}
use Rattle.catalogue.specs.Catalogue.{accepted_of}
use Rattle.catalogue.specs.Stored.{ListedProcedure, AreForTables, AreStored, listed_by_number, stored_procedures}
use Rattle.log_model.specs.declared.request.RequestId.{RequestId}
use Rattle.log_model.specs.Log.{StoredProcedure, Call, Catalogue, Setting, Log, by_name, by_number, first_repeated, history, procedures_after, run_in}
use Rattle.log_model.specs.Entries.{Entry, CallEntry, item_of, items_of}
use Rattle.log_entry.specs.Bytes.{entry_bytes}
use Rattle.log_model.specs.declared.refusal.CallRefusal.{CallRefusal}
use Rattle.log_model.specs.declared.refusal.CallRefusal.TheVariants.{NoProcedure}
use Rattle.log_model.specs.Admission.{admission}
use Rattle.site_model.specs.declared.answer.CallAnswer.TheVariants.{Refused, OutOfSession, Repeated, Cancelled, Read, Submitted}
use Rattle.site_model.specs.Order.{reply_to}
use Rattle.site_model.specs.Answer.{Asked, answer_for, answer_of_admission, answer_of_call, answer_of_run, in_session, asked_call, call_answer_behind, takes_memory, unless_cancelled, unless_repeated}
use Rattle.site_model.specs.declared.cause.NothingCause.{NothingCause}
use Rattle.site_model.specs.Sessions.{Sessions, session_cause}
use Rattle.site_model.specs.Standing.{SiteSetting, executed}
use Rattle.world_calls.specs.declared.completion.Completion.{Completion}
use Rattle.world_calls.specs.declared.completion.Completion.TheVariants as completion
use Rattle.world_calls.specs.OpenCall.{IsCompletion}
use Rattle.site.specs.Answered.{HasShortReply}
use Rattle.site.specs.Replica.{SiteReplica, StandsForLog, setting_of}
use Rattle.site.proofs.SiteLemmas.{ProceduresSuffice, held_procedures, listed_stored}

module _ (s : SiteSetting) (known : Sessions) (entries : List Entry) (asked : Asked) where
  abbrev w : Setting
  w = s.setting

  by_found : (o : Option StoredProcedure) → by_name (procedures_after w (items_of entries) (length entries)) asked.name ≡ o → call_answer_behind s known entries asked ≡ answer_for s known entries asked o
  unfolding call_answer_behind
  by_found o e = ap (answer_for s known entries asked) e

  pub no_procedure : by_name (procedures_after w (items_of entries) (length entries)) asked.name ≡ None → Refused NoProcedure ≡ call_answer_behind s known entries asked
  no_procedure none = sym (by_found None none)

  module _ (p : StoredProcedure) (some : by_name (procedures_after w (items_of entries) (length entries)) asked.name ≡ Some p) where
    by_admission : (answer : Result StoredProcedure CallRefusal) → admission asked.args asked.request (Some p) ≡ answer → call_answer_behind s known entries asked ≡ answer_of_admission s known entries asked answer
    by_admission answer e = by_found (Some p) some ∙ ap (answer_of_admission s known entries asked) e

    pub refused_call : (refusal : CallRefusal) → admission asked.args asked.request (Some p) ≡ Err refusal → Refused refusal ≡ call_answer_behind s known entries asked
    refused_call refusal e = sym (by_admission (Err refusal) e)

    by_session : (o : Option NothingCause) → admission asked.args asked.request (Some p) ≡ Ok p → session_cause s.origin known asked.request ≡ o → call_answer_behind s known entries asked ≡ in_session (answer_of_call w entries asked p) o
    by_session o e inside = by_admission (Ok p) e ∙ ap (in_session (answer_of_call w entries asked p)) inside

    pub out_of_session : (why : NothingCause) → admission asked.args asked.request (Some p) ≡ Ok p → session_cause s.origin known asked.request ≡ Some why → OutOfSession ≡ call_answer_behind s known entries asked
    out_of_session why e out = sym (by_session (Some why) e out)

    pub repeated_call : (position : ℕ) → admission asked.args asked.request (Some p) ≡ Ok p → session_cause s.origin known asked.request ≡ None → first_repeated w.beginning.requests (history w (items_of entries)).certified (asked_call (items_of entries) p asked) ≡ Some position → Repeated position (reply_to w entries asked.request position) ≡ call_answer_behind s known entries asked
    repeated_call position e inside first = sym (by_session None e inside ∙ ap (unless_repeated (reply_to w entries asked.request) (answer_of_run w (items_of entries) (asked_call (items_of entries) p asked))) first)

    pub run_call : admission asked.args asked.request (Some p) ≡ Ok p → session_cause s.origin known asked.request ≡ None → first_repeated w.beginning.requests (history w (items_of entries)).certified (asked_call (items_of entries) p asked) ≡ None → answer_of_run w (items_of entries) (asked_call (items_of entries) p asked) ≡ call_answer_behind s known entries asked
    run_call e inside first = sym (by_session None e inside ∙ ap (unless_repeated (reply_to w entries asked.request) (answer_of_run w (items_of entries) (asked_call (items_of entries) p asked))) first)

pub is_none_is_none : {X : Type 0} (o : Option X) → is_some o ≡ false → o ≡ None
is_none_is_none None e = refl
is_none_is_none (Some x) e = absurd cc

pub is_some_is_some : {X : Type 0} (o : Option X) → is_some o ≡ true → (x : X) × (o ≡ Some x)
is_some_is_some None e = absurd cc
is_some_is_some (Some x) e = (x, refl)

-- ---- the procedure of a name

abbrev pub FoundByNumber : Type 0
FoundByNumber = (procedures : List ListedProcedure) (name : List ℕ) (p : StoredProcedure) → AreStored procedures → by_name (stored_procedures procedures) name ≡ Some p → by_number (stored_procedures procedures) p.number ≡ Some p

pub record IsFound (s : SiteReplica) (entries : List Entry) (held : List ListedProcedure) (name : List ℕ) (number : ℕ) : Type 0 where
  pub p : StoredProcedure
  pub named : by_name (procedures_after (setting_of s).setting (items_of entries) (length entries)) name ≡ Some p
  pub number_is : p.number ≡ number
  pub numbered : by_number (procedures_after (setting_of s).setting (items_of entries) (length entries)) number ≡ Some p
  pub program : (accepted : Procedure) → Some accepted ≡ option_map (λ (l : ListedProcedure). l.accepted) (listed_by_number held number) → accepted ≡ accepted_of s.catalogue.tables p
  pub answered : (args : List ℕ) (request : Option RequestId) (answer : Result StoredProcedure CallRefusal) → admission args request (by_number (stored_procedures held) number) ≡ answer → admission args request (Some p) ≡ answer

some_named : (o : Option StoredProcedure) (number : ℕ) → Some number ≡ option_map (λ p. p.number) o → (p : StoredProcedure) × (o ≡ Some p) × (p.number ≡ number)
some_named None number e = absurd cc
some_named (Some p) number e = (p, refl, sym (one number p.number e))
  where
    one : (a b : ℕ) → Some a ≡ Some b → a ≡ b
    one a b e = cc

none_named : (o : Option StoredProcedure) → None ≡ option_map (λ p. p.number) o → o ≡ None
none_named None e = refl
none_named (Some p) e = absurd cc

module _ (s : SiteReplica) (entries : List Entry) (held : List ListedProcedure) (suffice : ProceduresSuffice) (stands : StandsForLog s entries) (same : held ≡ s.replica.procedures) where
  of_log : stored_procedures held ≡ procedures_after (setting_of s).setting (items_of entries) (length entries)
  of_log =
      ap stored_procedures same ∙ held_procedures s entries suffice stands
      ∙ ap (procedures_after (setting_of s).setting (items_of entries)) (length-map entries item_of)

  pub none_found_in : (name : List ℕ) → None ≡ option_map (λ p. p.number) (by_name (stored_procedures held) name) → by_name (procedures_after (setting_of s).setting (items_of entries) (length entries)) name ≡ None
  none_found_in name none = ap (λ (ps : Catalogue). by_name ps name) (sym of_log) ∙ none_named (by_name (stored_procedures held) name) none

  pub found_in : (name : List ℕ) (number : ℕ) → FoundByNumber → AreStored held → Some number ≡ option_map (λ p. p.number) (by_name (stored_procedures held) name) → IsFound s entries held name number
  found_in name number law are named =
      let (p, there, of) = some_named (by_name (stored_procedures held) name) number named in
      let numbered : by_number (stored_procedures held) number ≡ Some p = ap (by_number (stored_procedures held)) (sym of) ∙ law held name p are there in
      record {
        p = p;
        named = ap (λ (ps : Catalogue). by_name ps name) (sym of_log) ∙ there;
        number_is = of;
        numbered = ap (λ (ps : Catalogue). by_number ps number) (sym of_log) ∙ numbered;
        program = λ accepted is.
            one_program accepted (accepted_of s.catalogue.tables p)
            (is ∙ listed_stored s.catalogue.tables held number (subst (AreForTables s.catalogue.tables) (sym same) stands.stands.procedures) ∙ ap (option_map (accepted_of s.catalogue.tables)) numbered);
        answered = λ args request answer e. ap (admission args request) (sym numbered) ∙ e;
      }
    where
      one_program : (a b : Procedure) → Some a ≡ Some b → a ≡ b
      one_program a b e = cc

-- ---- the call that is run

pub same_call : (w : Setting) (log : Log) (procedure number : ℕ) (args : List ℕ) (snapshot position : ℕ) (request : Option RequestId) → procedure ≡ number → snapshot ≡ position
    → answer_of_run w log (record { number = 0; procedure = procedure; args = args; snapshot = snapshot; request = request }) ≡ answer_of_run w log (record { number = 0; procedure = number; args = args; snapshot = position; request = request })
same_call w log procedure number args snapshot position request same here =
    (λ i. answer_of_run w log (record { number = 0; procedure = same i; args = args; snapshot = here i; request = request }))

-- ---- the reply of what is to be ordered

pub reply_fits : {A : Type 0} (w : Setting) (log : Log) (call : Call) (c : Completion A) (bytes : List ℕ)
    → IsCompletion w log call c → HasShortReply c → answer_of_run w log call ≡ Submitted bytes → (run_in w log call).reply < 2 ^ 64
reply_fits w log call (completion.Cancelled snapshot code) bytes (cancelled, at) short told =
    absurd (let e : Cancelled call.snapshot code ≡ Submitted bytes =
    sym (ap (unless_cancelled call.snapshot (run_in w log call) (entry_bytes (CallEntry (executed w log call)))) cancelled) ∙ told in cc)
reply_fits w log call (completion.Read snapshot reply) bytes (none, no_writes, at, same) short told = subst (λ (n : ℕ). n < 2 ^ 64) same short
reply_fits w log call (completion.Wrote e) bytes (none, writes, is_call, carries, fit) short told =
    subst (λ (n : ℕ). n < 2 ^ 64) (carries.reply ∙ ap (λ (x : Call). (run_in w log x).reply) is_call) short

-- ---- memory

pub on_err : {X E : Type 0} (r : Result X E) (P : Type 0) → P → OnErr r P
on_err (Ok x) P p = tt
on_err (Err e) P p = p

pub on_err_gives : {X E : Type 0} (r : Result X E) (P Q : Type 0) → OnErr r P → (P → Q) → OnErr r Q
on_err_gives (Ok x) P Q p f = tt
on_err_gives (Err e) P Q p f = f p

-- a run's answer takes memory, whatever the answer is
run_takes : (position : ℕ) (r : Run) (bytes : List ℕ) (code : Option ℕ) → IsTrue (takes_memory (unless_cancelled position r bytes code))
run_takes position r bytes (Some code) = refl
run_takes position r bytes None = by_writes (len r.writes == 0)
  where
    by_writes : (b : Bool) → IsTrue (takes_memory (cond b (Read position r.reply) (Submitted bytes)))
    by_writes true = refl
    by_writes false = refl

pub answer_of_run-takes_memory : (w : Setting) (log : Log) (call : Call) → IsTrue (takes_memory (answer_of_run w log call))
answer_of_run-takes_memory w log call = run_takes call.snapshot (run_in w log call) (entry_bytes (CallEntry (executed w log call))) (run_in w log call).cancel_code
