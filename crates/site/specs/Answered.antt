-- What is asked and answered in code, and the model's.
use Rattle.std.specs.Prelude.{ℕ, ◌<◌, ◌^◌, List}
use Rattle.world_calls.specs.declared.completion.Completion.{Completion}
use Rattle.world_calls.specs.declared.completion.Completion.TheVariants as completion
use Rattle.log_entry.specs.Bytes.{entry_bytes}
use Rattle.log_entry.specs.declared.entry.Entry.{Entry as LogEntry}
use Rattle.log_entry.specs.Kind.{entry_of}
use Rattle.site_model.specs.declared.answer.CallAnswer.{CallAnswer}
use Rattle.site_model.specs.declared.answer.CallAnswer.TheVariants.{Refused, OutOfSession, Repeated, Cancelled, Read, Submitted}
use Rattle.site_model.specs.declared.answer.AdditionAnswer.{AdditionAnswer}
use Rattle.site_model.specs.declared.answer.AdditionAnswer.TheVariants as addition
use Rattle.site_model.specs.Answer.{Asked}
use Rattle.site.specs.declared.asked.Asked.{Asked as AskedCall}

abbrev pub asked_of : AskedCall → Asked
asked_of asked = record { name = asked.name.now; args = asked.args.now; request = asked.request }

-- what is to be ordered, by its bytes
abbrev pub answered : {A : Type 0} → CallAnswer (LogEntry A) → CallAnswer (List ℕ)
answered (Refused refusal) = Refused refusal
answered OutOfSession = OutOfSession
answered (Repeated position reply) = Repeated position reply
answered (Cancelled position code) = Cancelled position code
answered (Read position reply) = Read position reply
answered (Submitted entry) = Submitted (entry_bytes (entry_of entry))

-- its reply, where it has one, has 64 bits
abbrev pub HasShortReply : {A : Type 0} → Completion A → Type 0
HasShortReply (completion.Cancelled snapshot code) = Unit {0}
HasShortReply (completion.Read snapshot reply) = reply < 2 ^ 64
HasShortReply (completion.Wrote e) = e.reply < 2 ^ 64

abbrev pub added : {A : Type 0} → AdditionAnswer (LogEntry A) → AdditionAnswer (List ℕ)
added (addition.Refused refusal) = addition.Refused refusal
added (addition.Submitted entry) = addition.Submitted (entry_bytes (entry_of entry))
