-- Which kind an answer is of.
use Rattle.node_calls.specs.declared.answer.Answer.{Answer}
use Rattle.node_calls.specs.declared.answer.Answer.TheVariants as answer
use Rattle.tallies.specs.declared.kinds.AnswerKind.{AnswerKind}
use Rattle.tallies.specs.declared.kinds.AnswerKind.TheVariants.{Committed, Read, Cancelled, Conflict, Stale, Repeated, Other}

abbrev pub kind_of : Answer → AnswerKind
kind_of (answer.Committed position reply) = Committed
kind_of (answer.Read snapshot reply) = Read
kind_of (answer.Cancelled snapshot code) = Cancelled
kind_of (answer.Conflict position other) = Conflict
kind_of answer.Stale = Stale
kind_of (answer.Repeated position earlier reply) = Repeated
kind_of _ = Other
