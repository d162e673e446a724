use Rattle.sig_lanes.proofs.SignatureLemmas.{of_both, by_both, bit_is_few}
use Rattle.sig_lanes.proofs.laws.shared_bits_are_of_both.Goals as goal

pub returns-clause-shared : goal.returns-clause-shared
returns-clause-shared c looks writes = (of_both looks writes, by_both looks writes)

pub returns-clause-few : goal.returns-clause-few
returns-clause-few c = bit_is_few
