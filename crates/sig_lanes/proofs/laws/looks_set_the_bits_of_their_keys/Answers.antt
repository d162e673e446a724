use Rattle.sig_lanes.proofs.SignatureLemmas.{short_sets, set_by_short, long_sets, set_by_long}
use Rattle.sig_lanes.proofs.laws.looks_set_the_bits_of_their_keys.Goals as goal

pub returns-clause-short : goal.returns-clause-short
returns-clause-short c look bit le = (short_sets look bit le, set_by_short look bit le)

pub returns-clause-long : goal.returns-clause-long
returns-clause-long c look bit lt = (long_sets look bit lt, set_by_long look bit lt)
