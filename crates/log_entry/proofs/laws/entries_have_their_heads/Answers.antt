use Rattle.log_entry.proofs.HeadLemmas.{addition_is_named, call_is_named}
use Rattle.log_entry.proofs.laws.entries_have_their_heads.Goals as goal

pub returns-clause-calls : goal.returns-clause-calls
returns-clause-calls c = call_is_named

pub returns-clause-additions : goal.returns-clause-additions
returns-clause-additions c = addition_is_named
