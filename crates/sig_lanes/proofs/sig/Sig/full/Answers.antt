use Rattle.sig_lanes.proofs.BitLemmas.{each_bit}
use Rattle.sig_lanes.proofs.sig.Sig.full.Goals as goal

pub returns : goal.returns
returns c = each_bit
