-- What a site answers to a caller, at the position that it has come to (this product's own rules).
use Rattle.std.specs.Prelude.{ℕ, ◌==◌, Bool, true, false, not, if◌then◌else◌, List, length, Option, Some, None, Result, Ok, Err}
use Rattle.std.specs.FinMap.{len}
use Rattle.bpf_code.specs.Program.{Program}
use Rattle.bpf_semantics.specs.Run.{Run}
use Rattle.log_model.specs.declared.request.RequestId.{RequestId}
use Rattle.log_model.specs.Log.{StoredProcedure, Setting, Call, Log, by_name, first_repeated, history, procedures_after, run_in}
use Rattle.log_model.specs.Entries.{Entry, CallEntry, AdditionEntry, items_of}
use Rattle.log_model.specs.Name.{is_name}
use Rattle.log_entry.specs.Bytes.{entry_bytes}
use Rattle.log_model.specs.declared.refusal.CallRefusal.{CallRefusal}
use Rattle.log_model.specs.Admission.{admission}
use Rattle.log_entry.specs.Head.{NamedProcedure}
use Rattle.program_checks.specs.ProgramCheck.{ProgramCheck, Passed, Failed}
use Rattle.program_checks.specs.Check.{check_of}
use Rattle.site_model.specs.declared.answer.CallAnswer.{CallAnswer}
use Rattle.site_model.specs.declared.answer.CallAnswer.TheVariants.{Refused, OutOfSession, Repeated, Cancelled, Read, Submitted}
use Rattle.site_model.specs.declared.answer.AdditionAnswer.{AdditionAnswer}
use Rattle.site_model.specs.declared.answer.AdditionAnswer.TheVariants as addition
use Rattle.site_model.specs.declared.answer.AdditionRefusal.TheVariants as refusal
use Rattle.site_model.specs.declared.cause.NothingCause.{NothingCause}
use Rattle.site_model.specs.Sessions.{Sessions, session_cause}
use Rattle.site_model.specs.Standing.{SiteSetting, executed}
use Rattle.site_model.specs.Order.{Order, order_entries, reply_to, sessions_after}

-- ---- calls

-- what is asked for
pub record Asked : Type 0 where
  pub name : List ℕ
  pub args : List ℕ
  pub request : Option RequestId

-- the call of a procedure, at the end of a log
abbrev pub asked_call : Log → StoredProcedure → Asked → Call
asked_call log p asked =
    record { number = 0; procedure = p.number; args = asked.args; snapshot = length log; request = asked.request }

-- by its run: it cancels, or writes nothing, or is to be ordered with these bytes
abbrev pub unless_cancelled : ℕ → Run → List ℕ → Option ℕ → CallAnswer (List ℕ)
unless_cancelled position r bytes (Some code) = Cancelled position code
unless_cancelled position r bytes None = if len r.writes == 0 then Read position r.reply else Submitted bytes

abbrev pub answer_of_run : Setting → Log → Call → CallAnswer (List ℕ)
answer_of_run w log call =
    unless_cancelled call.snapshot (run_in w log call) (entry_bytes (CallEntry (executed w log call)))
    (run_in w log call).cancel_code

abbrev pub unless_repeated : (ℕ → ℕ) → CallAnswer (List ℕ) → Option ℕ → CallAnswer (List ℕ)
unless_repeated replies answer (Some position) = Repeated position (replies position)
unless_repeated replies answer None = answer

abbrev pub answer_of_call : Setting → List Entry → Asked → StoredProcedure → CallAnswer (List ℕ)
answer_of_call w entries asked p =
    unless_repeated (reply_to w entries asked.request) (answer_of_run w (items_of entries) (asked_call (items_of entries) p asked))
    (first_repeated w.beginning.requests (history w (items_of entries)).certified (asked_call (items_of entries) p asked))

-- by what is known of its session
abbrev pub in_session : CallAnswer (List ℕ) → Option NothingCause → CallAnswer (List ℕ)
in_session answer (Some why) = OutOfSession
in_session answer None = answer

-- by its admission
abbrev pub answer_of_admission : SiteSetting → Sessions → List Entry → Asked → Result StoredProcedure CallRefusal → CallAnswer (List ℕ)
answer_of_admission s known entries asked (Err refusal) = Refused refusal
answer_of_admission s known entries asked (Ok p) =
    in_session (answer_of_call s.setting entries asked p) (session_cause s.origin known asked.request)

abbrev pub answer_for : SiteSetting → Sessions → List Entry → Asked → Option StoredProcedure → CallAnswer (List ℕ)
answer_for s known entries asked p = answer_of_admission s known entries asked (admission asked.args asked.request p)

-- what comes of what is asked for, behind these entries
unfoldable pub call_answer_behind : SiteSetting → Sessions → List Entry → Asked → CallAnswer (List ℕ)
call_answer_behind s known entries asked =
    answer_for s known entries asked (by_name (procedures_after s.setting (items_of entries) (length entries)) asked.name)

-- and behind an order
abbrev pub call_answer : SiteSetting → Order → Asked → CallAnswer (List ℕ)
call_answer s order asked = call_answer_behind s (sessions_after s order) (order_entries s order) asked

-- whether an answer comes of a run, for which memory is taken
abbrev pub takes_memory : CallAnswer (List ℕ) → Bool
takes_memory (Refused refusal) = false
takes_memory OutOfSession = false
takes_memory (Repeated position reply) = false
takes_memory (Cancelled position code) = true
takes_memory (Read position reply) = true
takes_memory (Submitted bytes) = true

-- ---- additions

abbrev pub stored_as : NamedProcedure → Program → StoredProcedure
stored_as p program = record { name = p.name; number = p.number; program = program; args_len = p.args_len }

abbrev pub answer_of_check : SiteSetting → NamedProcedure → ProgramCheck → AdditionAnswer (List ℕ)
answer_of_check s p (Failed fault) = addition.Refused (refusal.Program fault)
answer_of_check s p (Passed program) =
    if not (is_name p.name) then addition.Refused refusal.Name
    else if not s.takes_additions then addition.Refused refusal.NoAdditions
    else addition.Submitted
    (entry_bytes (AdditionEntry (stored_as p program)))

-- what comes of a procedure that is to be added, of arguments within the limit
abbrev pub addition_answer : SiteSetting → NamedProcedure → AdditionAnswer (List ℕ)
addition_answer s p = answer_of_check s p (check_of s.setting.tables p.args_len p.bytes)
