-- The lines that are printed of a world, and of the calls that a node takes.
use Rattle.std.specs.Prelude.{ℕ, Bool, if◌then◌else◌, List, [], ◌++◌, codes, Option, Some, None}
use Rattle.std.specs.Fmt.{decimal}
use Rattle.std.specs.Option.{option_map}
use Rattle.hex.specs.Hex.{encode_lower}
use Rattle.byte_output.specs.Column.{right_in}
use Rattle.bpf_bytes.specs.Fault.{fault_text}
use Rattle.bpf_verify.specs.Refusal.{refusal_text}
use Rattle.bpf_verify.specs.declared.refusal.Refusal.TheVariants.{At}
use Rattle.log_model.specs.declared.verdict.Identifier.TheVariants.{Name, Number}
use Rattle.log_model.specs.declared.verdict.Verdict.{Verdict}
use Rattle.log_model.specs.declared.verdict.Verdict.TheVariants as verdict
use Rattle.program_checks.specs.declared.fault.ProgramFault.{ProgramFault}
use Rattle.program_checks.specs.declared.fault.ProgramFault.TheVariants.{Bytes, Instruction}
use Rattle.dsm_model.specs.declared.outcome.StepRefusal.{StepRefusal}
use Rattle.dsm_model.specs.declared.outcome.StepRefusal.TheVariants.{NoReplica, NoProcedure, ArgumentsLength, NoCall, NotAtExit, NothingToDeliver, ReplicaStopped, LogFull, NoMemory, TooManyCalls, ArgumentsLimit, ProgramRefused, NameShape, ZeroInRequest}
use Rattle.tallies.specs.declared.counts.Counts.{Counts}
use Rattle.report.specs.declared.printed.CallReport.{CallReport}
use Rattle.report.specs.declared.printed.CallReport.TheVariants as call
use Rattle.node_calls.specs.declared.answer.Answer.{Answer}
use Rattle.node_calls.specs.declared.answer.Answer.TheVariants as answer
use Rattle.dsm_model.specs.World.{refusal_of_call}
use Rattle.report.specs.declared.printed.ReplicaReport.{ReplicaReport}
use Rattle.report.specs.declared.printed.ReplicaReport.TheVariants as replica
use Rattle.report.specs.declared.printed.DeliveredEntry.{DeliveredEntry}
use Rattle.report.specs.declared.printed.DeliveredEntry.TheVariants as delivered
use Rattle.report.specs.declared.printed.LoggedEntry.{LoggedEntry}
use Rattle.report.specs.declared.printed.Line.{Line}
use Rattle.report.specs.declared.printed.Line.TheVariants.{Begun, BeginRefused, Added, AddRefused, Call, Replica, Row, Certified, Open, Log, Entry, Answered, Totals, Agreement}

abbrev pub number_of_step_refusal : StepRefusal → ℕ
number_of_step_refusal NoReplica = 1
number_of_step_refusal NoProcedure = 2
number_of_step_refusal ArgumentsLength = 3
number_of_step_refusal NoCall = 4
number_of_step_refusal NotAtExit = 5
number_of_step_refusal NothingToDeliver = 6
number_of_step_refusal ReplicaStopped = 7
number_of_step_refusal LogFull = 8
number_of_step_refusal NoMemory = 9
number_of_step_refusal TooManyCalls = 10
number_of_step_refusal ArgumentsLimit = 11
number_of_step_refusal (ProgramRefused fault) = 11
number_of_step_refusal NameShape = 12
number_of_step_refusal ZeroInRequest = 13

-- as `B1 slot 0` or `V5 slot 6`
abbrev pub program_fault_text : ProgramFault → List ℕ
program_fault_text (Bytes fault) = fault_text fault
program_fault_text (Instruction slot cause) = refusal_text (At slot cause)

-- what is said besides the number
abbrev pub cause_words : StepRefusal → List ℕ
cause_words ArgumentsLimit = codes " args"
cause_words (ProgramRefused fault) = codes " " ++ program_fault_text fault
cause_words _ = []

-- as `refused P2` or `refused P11 V5 slot 6`
abbrev pub step_refusal_words : StepRefusal → List ℕ
step_refusal_words refusal = codes "refused P" ++ decimal (number_of_step_refusal refusal) ++ cause_words refusal

abbrev pub read_words : ℕ → ℕ → List ℕ
read_words snapshot reply = codes "read " ++ decimal snapshot ++ codes " reply " ++ decimal reply

abbrev pub cancelled_words : ℕ → ℕ → List ℕ
cancelled_words snapshot code = codes "cancelled " ++ decimal snapshot ++ codes " code " ++ decimal code

abbrev pub call_words : CallReport → List ℕ
call_words call.More = codes "more"
call_words (call.Exit reply) = codes "exit " ++ decimal reply
call_words call.Stale = codes "stale"
call_words call.NoMemory = codes "no memory"
call_words (call.Ordered position) = codes "number " ++ decimal position
call_words (call.Read snapshot reply) = read_words snapshot reply
call_words (call.Cancelled snapshot code) = cancelled_words snapshot code
call_words (call.Refused refusal) = step_refusal_words refusal

-- as `committed 1 reply 10`
abbrev pub answer_words : Answer → List ℕ
answer_words (answer.Committed position reply) = codes "committed " ++ decimal position ++ codes " reply " ++ decimal reply
answer_words (answer.Read snapshot reply) = read_words snapshot reply
answer_words (answer.Cancelled snapshot code) = cancelled_words snapshot code
answer_words (answer.Conflict position other) = codes "conflict " ++ decimal position ++ codes " " ++ decimal other
answer_words answer.Stale = codes "stale"
answer_words (answer.Repeated position earlier reply) =
    codes "repeat " ++ decimal position ++ codes " " ++ decimal earlier ++ codes " reply " ++ decimal reply
answer_words answer.NoMemory = codes "no memory"
answer_words answer.Full = codes "full"
answer_words (answer.Stopped position) = codes "stopped " ++ decimal position
answer_words answer.Behind = codes "behind"
answer_words answer.NoReplica = step_refusal_words NoReplica
answer_words (answer.Refused refusal) = step_refusal_words (refusal_of_call refusal)

abbrev pub verdict_words : Verdict → List ℕ
verdict_words verdict.Commit = codes "commit"
verdict_words (verdict.Conflict position) = codes "conflict " ++ decimal position
verdict_words verdict.Stale = codes "stale"
verdict_words (verdict.Repeated position) = codes "repeat " ++ decimal position
verdict_words (verdict.Taken Name) = codes "taken C1"
verdict_words (verdict.Taken Number) = codes "taken C2"

-- that of an addition that commits has a word of its own
abbrev pub addition_words : Verdict → List ℕ
addition_words verdict.Commit = codes "added"
addition_words verdict = verdict_words verdict

abbrev pub reply_words : Option ℕ → List ℕ
reply_words (Some reply) = codes " reply " ++ decimal reply
reply_words None = []

-- the procedure is named where it is added
abbrev pub added_words : Verdict → ℕ → List ℕ
added_words verdict.Commit procedure = codes " " ++ decimal procedure
added_words _ procedure = []

-- as `commit reply 10`, `conflict 1`, `added 9` or `taken C1`
abbrev pub delivered_words : Verdict → DeliveredEntry → List ℕ
delivered_words verdict (delivered.Call reply) = verdict_words verdict ++ reply_words reply
delivered_words verdict (delivered.Addition procedure) = addition_words verdict ++ added_words verdict procedure

abbrev pub mark_words : Bool → List ℕ
mark_words is_stopped = if is_stopped then codes "stopped" else codes "running"

abbrev pub replica_words : ReplicaReport → List ℕ
replica_words (replica.Delivered position verdict entry) =
    codes "number " ++ decimal position ++ codes " " ++ delivered_words verdict entry
replica_words (replica.Rebuilt position) = codes "rebuilt " ++ decimal position
replica_words (replica.Rows position rows) = codes "position " ++ decimal position ++ codes " rows " ++ decimal rows
replica_words (replica.Ended position commits is_stopped) =
    codes "position " ++ decimal position ++ codes " commits " ++ decimal commits ++ codes " " ++ mark_words is_stopped
replica_words (replica.Refused refusal) = step_refusal_words refusal

-- an addition has no snapshot
abbrev pub snapshot_words : Option ℕ → List ℕ
snapshot_words (Some snapshot) = decimal snapshot
snapshot_words None = codes "-"

-- the columns that an entry of the log has in any case
abbrev pub entry_words : LoggedEntry → List ℕ
entry_words e =
    right_in 7 (decimal e.position) ++ codes " " ++ right_in 5 (decimal e.procedure) ++ codes " "
    ++ right_in 7 (snapshot_words e.snapshot) ++ codes " " ++ right_in 5 (decimal e.writes) ++ codes " "

-- the verdict on a call of this snapshot, or on an addition, which has none
abbrev pub certified_words : Option ℕ → Verdict → List ℕ
certified_words (Some snapshot) verdict = verdict_words verdict
certified_words None verdict = addition_words verdict

-- what stands in front of the bytes of a row
abbrev pub row_label : ℕ → ℕ → List ℕ
row_label table key = right_in 2 (decimal table) ++ codes " " ++ right_in 20 (decimal key) ++ codes " "

-- a row of a table
abbrev pub row_words : ℕ → ℕ → List ℕ → List ℕ
row_words table key bytes = row_label table key ++ encode_lower bytes

-- what stands in front of the bytes of an entry
abbrev pub bytes_label : ℕ → List ℕ
bytes_label position = codes "entry " ++ decimal position ++ codes " "

-- the bytes of the entry at a position, where there is one
abbrev pub bytes_words : ℕ → Option (List ℕ) → List ℕ
bytes_words position (Some bytes) = bytes_label position ++ encode_lower bytes
bytes_words position None = codes "entry " ++ decimal position ++ codes " none"

-- how many calls were answered in each way
abbrev pub totals_words : Counts → List ℕ
totals_words counts =
    codes "total committed " ++ decimal counts.committed ++ codes " read " ++ decimal counts.read
    ++ codes " cancelled " ++ decimal counts.cancelled ++ codes " conflict " ++ decimal counts.conflict
    ++ codes " stale " ++ decimal counts.stale ++ codes " repeat " ++ decimal counts.repeated
    ++ codes " other " ++ decimal counts.other

abbrev pub agreement_words : Bool → List ℕ
agreement_words agrees = codes "agreement " ++ (if agrees then codes "yes" else codes "no")

-- what a line says, without the LF at its end
unfoldable pub line_words : Line → List ℕ
line_words (Begun call replica snapshot) =
    codes "call " ++ decimal call ++ codes " replica " ++ decimal replica ++ codes " snapshot " ++ decimal snapshot
line_words (BeginRefused refusal) = codes "begin " ++ step_refusal_words refusal
line_words (Added position) = codes "add number " ++ decimal position
line_words (AddRefused refusal) = codes "add " ++ step_refusal_words refusal
line_words (Call call report) = codes "call " ++ decimal call ++ codes " " ++ call_words report
line_words (Replica replica report) = codes "replica " ++ decimal replica ++ codes " " ++ replica_words report
line_words (Row table key bytes) = row_words table key bytes.now
line_words (Certified entry compared verdict) = entry_words entry ++ right_in 5 (decimal compared) ++ codes " " ++ certified_words entry.snapshot verdict
line_words (Open entry) = entry_words entry ++ right_in 5 (codes "-") ++ codes " open"
line_words (Log entries) = codes "log " ++ decimal entries
line_words (Entry position bytes) = bytes_words position (option_map (λ b. b.now) bytes)
line_words (Answered call answer) = codes "call " ++ decimal call ++ codes " " ++ answer_words answer
line_words (Totals counts) = totals_words counts
line_words (Agreement agrees) = agreement_words agrees

abbrev pub line_text : Line → List ℕ
line_text line = line_words line ++ codes "\n"
