use Rattle.locked_replica.proofs.EntryLemmas as lemmas
use Rattle.locked_replica.proofs.ordered_laws.entries_with_facts_are_a_logs.Goals as goal

pub returns-clause-of_log : goal.returns-clause-of_log
returns-clause-of_log g c w entries e = lemmas.of_log c.one_more_entry.ensures c.calls_ask_up_to_their_snapshots.ensures.is_call c.calls_ask_up_to_their_snapshots.ensures.run c.accepted_procedures_are_safe.ensures w entries e

pub returns-clause-placed : goal.returns-clause-placed
returns-clause-placed g c w entries e = lemmas.placed w entries e

pub returns-clause-writes : goal.returns-clause-writes
returns-clause-writes g c w entries e = lemmas.writes w entries e

pub returns-clause-named : goal.returns-clause-named
returns-clause-named g c w entries e = lemmas.named w entries e

pub returns-clause-for_tables : goal.returns-clause-for_tables
returns-clause-for_tables g c w entries e = lemmas.for_tables w entries e
