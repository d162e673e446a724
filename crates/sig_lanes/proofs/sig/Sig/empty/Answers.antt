use Rattle.sig_lanes.proofs.BitLemmas.{no_bit}
use Rattle.sig_lanes.proofs.sig.Sig.empty.Goals as goal

pub returns : goal.returns
returns c = no_bit
