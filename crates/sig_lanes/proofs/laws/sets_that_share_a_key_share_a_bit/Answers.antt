use Rattle.sig_lanes.proofs.SignatureLemmas.{key_shares_bit}
use Rattle.sig_lanes.proofs.laws.sets_that_share_a_key_share_a_bit.Goals as goal

pub returns : goal.returns
returns c = key_shares_bit
