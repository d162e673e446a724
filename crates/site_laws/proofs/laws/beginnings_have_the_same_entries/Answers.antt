use Rattle.site_laws.proofs.LogLemmas.{beginning}
use Rattle.site_laws.proofs.laws.beginnings_have_the_same_entries.Goals as goal

pub returns : goal.returns
returns c s order more = beginning s order more
