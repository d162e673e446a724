-- The lines that a site answers.
use Rattle.std.specs.Prelude.{ℕ, Option, Some, None, List, [], ◌++◌, codes}
use Rattle.std.specs.Fmt.{decimal}
use Rattle.hex.specs.Hex.{encode_lower}
use Rattle.schema.specs.Rows.{Key}
use Rattle.log_model.specs.declared.request.RequestId.{RequestId}
use Rattle.log_model.specs.declared.verdict.Identifier.TheVariants.{Name, Number}
use Rattle.script.specs.declared.fault.LineFault.{LineFault}
use Rattle.script.specs.Fault.{number_of_line_fault}
use Rattle.report.specs.Lines.{program_fault_text, read_words, cancelled_words, row_words}
use Rattle.site_model.specs.declared.cause.NothingCause.{NothingCause}
use Rattle.site_model.specs.declared.cause.NothingCause.TheVariants as nothing
use Rattle.site_model.specs.declared.outcome.EntryOutcome.{EntryOutcome}
use Rattle.site_model.specs.declared.outcome.EntryOutcome.TheVariants as outcome
use Rattle.log_model.specs.declared.refusal.CallRefusal.{CallRefusal}
use Rattle.log_model.specs.declared.refusal.CallRefusal.TheVariants.{NoProcedure, ArgumentsLength, ZeroInRequest}
use Rattle.site_model.specs.declared.answer.CallAnswer.{CallAnswer}
use Rattle.site_model.specs.declared.answer.CallAnswer.TheVariants as call
use Rattle.site_model.specs.declared.answer.AdditionRefusal.{AdditionRefusal}
use Rattle.site_model.specs.declared.answer.AdditionRefusal.TheVariants as refusal
use Rattle.site_model.specs.declared.answer.AdditionAnswer.{AdditionAnswer}
use Rattle.site_model.specs.declared.answer.AdditionAnswer.TheVariants as addition

-- ---- what became of a byte string

-- the number after the letter E
abbrev pub number_of_nothing : NothingCause → ℕ
number_of_nothing nothing.Unreadable = 1
number_of_nothing nothing.Addition = 2
number_of_nothing nothing.Snapshot = 3
number_of_nothing nothing.Procedure = 4
number_of_nothing nothing.Untrue = 5
number_of_nothing nothing.Superseded = 6
number_of_nothing nothing.UnknownSession = 7

-- as `repeat 1 reply 10`
abbrev pub repeat_words : ℕ → ℕ → List ℕ
repeat_words position reply = codes "repeat " ++ decimal position ++ codes " reply " ++ decimal reply

abbrev pub outcome_words : EntryOutcome → List ℕ
outcome_words (outcome.Committed reply) = codes "commit reply " ++ decimal reply
outcome_words (outcome.Conflict position) = codes "conflict " ++ decimal position
outcome_words outcome.Stale = codes "stale"
outcome_words (outcome.Repeated position reply) = repeat_words position reply
outcome_words (outcome.Added number) = codes "added " ++ decimal number
outcome_words (outcome.Taken Name) = codes "taken C1"
outcome_words (outcome.Taken Number) = codes "taken C2"
outcome_words (outcome.Session session) = codes "session " ++ decimal session
outcome_words (outcome.Nothing cause) = codes "nothing E" ++ decimal (number_of_nothing cause)

-- the request, where there is one
abbrev pub request_words : Option RequestId → List ℕ
request_words None = []
request_words (Some request) = codes " session " ++ decimal request.session ++ codes " seq " ++ decimal request.sequence

-- as `entry 2 conflict 1 session 8 seq 1`
abbrev pub entry_line : ℕ → EntryOutcome → Option RequestId → List ℕ
entry_line position outcome request =
    codes "entry " ++ decimal position ++ codes " " ++ outcome_words outcome ++ request_words request ++ codes "\n"

-- ---- what comes of a call

-- the number after the letter P
abbrev pub number_of_call_refusal : CallRefusal → ℕ
number_of_call_refusal NoProcedure = 2
number_of_call_refusal ArgumentsLength = 3
number_of_call_refusal ZeroInRequest = 13

-- the bytes that are to be ordered
abbrev pub submit_words : List ℕ → List ℕ
submit_words bytes = codes "submit " ++ encode_lower bytes

abbrev pub call_words : CallAnswer (List ℕ) → List ℕ
call_words (call.Refused refusal) = codes "refused P" ++ decimal (number_of_call_refusal refusal)
call_words call.OutOfSession = codes "refused P15"
call_words (call.Repeated position reply) = repeat_words position reply
call_words (call.Cancelled position code) = cancelled_words position code
call_words (call.Read position reply) = read_words position reply
call_words (call.Submitted bytes) = submit_words bytes

abbrev pub call_line : CallAnswer (List ℕ) → List ℕ
call_line answer = call_words answer ++ codes "\n"

-- the answer whose entry is given by its bytes
abbrev pub call_with_bytes : {E : Type 0} → (E → List ℕ) → CallAnswer E → CallAnswer (List ℕ)
call_with_bytes bytes (call.Refused refusal) = call.Refused refusal
call_with_bytes bytes call.OutOfSession = call.OutOfSession
call_with_bytes bytes (call.Repeated position reply) = call.Repeated position reply
call_with_bytes bytes (call.Cancelled position code) = call.Cancelled position code
call_with_bytes bytes (call.Read position reply) = call.Read position reply
call_with_bytes bytes (call.Submitted e) = call.Submitted (bytes e)

-- ---- what comes of an addition

-- as `refused P11 V1 slot 0`
abbrev pub addition_refusal_words : AdditionRefusal → List ℕ
addition_refusal_words (refusal.Program fault) = codes "refused P11 " ++ program_fault_text fault
addition_refusal_words refusal.Name = codes "refused P12"
addition_refusal_words refusal.NoAdditions = codes "refused P14"

abbrev pub addition_words : AdditionAnswer (List ℕ) → List ℕ
addition_words (addition.Refused refusal) = addition_refusal_words refusal
addition_words (addition.Submitted bytes) = submit_words bytes

abbrev pub addition_line : AdditionAnswer (List ℕ) → List ℕ
addition_line answer = addition_words answer ++ codes "\n"

abbrev pub addition_with_bytes : {E : Type 0} → (E → List ℕ) → AdditionAnswer E → AdditionAnswer (List ℕ)
addition_with_bytes bytes (addition.Refused refusal) = addition.Refused refusal
addition_with_bytes bytes (addition.Submitted e) = addition.Submitted (bytes e)

-- ---- other lines

abbrev pub position_line : ℕ → List ℕ
position_line position = codes "position " ++ decimal position ++ codes "\n"

-- a row of a table
abbrev pub row_line : ℕ → ℕ → List ℕ → List ℕ
row_line table key bytes = row_words table key bytes ++ codes "\n"

abbrev pub row_text : (Key × List ℕ) → List ℕ
row_text row = row_line row.0.0 row.0.1 row.1

-- behind the rows, how many they are
abbrev pub row_count_line : ℕ → ℕ → List ℕ
row_count_line position rows = codes "position " ++ decimal position ++ codes " rows " ++ decimal rows ++ codes "\n"

-- as `fault L4`
abbrev pub fault_line : LineFault → List ℕ
fault_line fault = codes "fault L" ++ decimal (number_of_line_fault fault) ++ codes "\n"

-- where the order has as many byte strings as one may have
abbrev pub order_full_line : List ℕ
order_full_line = codes "fault O1\n"

-- of a scan of a table that there isn't
abbrev pub no_table_line : List ℕ
no_table_line = codes "refused P16\n"

-- of a call or an addition that finds no memory
abbrev pub no_memory_line : List ℕ
no_memory_line = codes "refused P9\n"
