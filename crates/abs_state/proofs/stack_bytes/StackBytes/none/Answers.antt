use Rattle.abs_state.proofs.BitLemmas.{no_bits}
use Rattle.abs_state.proofs.stack_bytes.StackBytes.none.Goals as goal

pub returns : goal.returns
returns c = no_bits
