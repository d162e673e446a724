-- The line of a step's answer.
use Rattle.std.specs.Prelude.{ℕ, List, [], Option, Some, None}
use Rattle.std.specs.Option.{option_map}
use Rattle.dsm_model.specs.declared.outcome.Outcome.{Outcome}
use Rattle.dsm_model.specs.declared.outcome.Outcome.TheVariants.{Begun, More, Exit, Stale, NoMemory, Ordered, Read, Cancelled, Delivered, Rebuilt, Refused, Added}
use Rattle.dsm_model.specs.World.{Step, Begin, Turn, Order, Deliver, Rebuild, Add}
use Rattle.report.specs.declared.printed.CallReport.{CallReport}
use Rattle.report.specs.declared.printed.CallReport.TheVariants as call
use Rattle.report.specs.declared.printed.ReplicaReport.{ReplicaReport}
use Rattle.report.specs.declared.printed.ReplicaReport.TheVariants as replica
use Rattle.report.specs.declared.printed.DeliveredEntry.{DeliveredEntry}
use Rattle.report.specs.declared.printed.Line.{Line}
use Rattle.report.specs.declared.printed.Line.TheVariants as line
use Rattle.report.specs.Lines.{line_text}

-- what is said where a call was to begin at a replica
abbrev pub begin_report : ℕ → Outcome → Option Line
begin_report replica (Begun call snapshot) = Some (line.Begun call replica snapshot)
begin_report replica (Refused refusal) = Some (line.BeginRefused refusal)
begin_report replica _ = None

-- what is said where a procedure was to be added
abbrev pub add_report : Outcome → Option Line
add_report (Added position) = Some (line.Added position)
add_report (Refused refusal) = Some (line.AddRefused refusal)
add_report _ = None

-- what an outcome says of its call
abbrev pub call_report : Outcome → Option CallReport
call_report More = Some call.More
call_report (Exit reply) = Some (call.Exit reply)
call_report Stale = Some call.Stale
call_report NoMemory = Some call.NoMemory
call_report (Ordered position) = Some (call.Ordered position)
call_report (Read snapshot reply) = Some (call.Read snapshot reply)
call_report (Cancelled snapshot code) = Some (call.Cancelled snapshot code)
call_report (Refused refusal) = Some (call.Refused refusal)
call_report _ = None

-- what an outcome says of its replica, given what is said of the delivered entry
abbrev pub replica_report : Outcome → DeliveredEntry → Option ReplicaReport
replica_report (Delivered position verdict) entry = Some (replica.Delivered position verdict entry)
replica_report (Rebuilt position) entry = Some (replica.Rebuilt position)
replica_report (Refused refusal) entry = Some (replica.Refused refusal)
replica_report _ entry = None

-- the line of a step's answer, given what is said of the delivered entry, by the kind of the step: of a call's beginning, of
-- a call, of a replica, of an addition; none of an answer of another kind
abbrev pub answer_line : Step → Outcome → DeliveredEntry → Option Line
answer_line (Begin replica procedure args request) outcome entry = begin_report replica outcome
answer_line (Turn call) outcome entry = option_map (line.Call call) (call_report outcome)
answer_line (Order call) outcome entry = option_map (line.Call call) (call_report outcome)
answer_line (Deliver replica) outcome entry = option_map (line.Replica replica) (replica_report outcome entry)
answer_line (Rebuild replica) outcome entry = option_map (line.Replica replica) (replica_report outcome entry)
answer_line (Add name number args_len checked) outcome entry = add_report outcome

abbrev pub text_of : Option Line → List ℕ
text_of (Some line) = line_text line
text_of None = []

-- what a step's answer prints
abbrev pub answer_text : Step → Outcome → DeliveredEntry → List ℕ
answer_text step outcome entry = text_of (answer_line step outcome entry)
