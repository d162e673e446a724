use Rattle.replica.proofs.EntryLemmas.{entries_snoc}
use Rattle.replica.proofs.laws.one_more_entry.Goals as goal

pub returns : goal.returns
returns c w entries e are placed is carries = entries_snoc c.one_more_entry_carries_its_run.ensures w entries e are is placed carries
