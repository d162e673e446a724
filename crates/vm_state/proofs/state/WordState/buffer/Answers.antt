use Rattle.std.proofs.Common.{◌∙◌}
use Rattle.vm_state.proofs.Loading.{buffer_known}
use Rattle.vm_state.proofs.state.WordState.buffer.Goals as goal

pub returns-clause-known : goal.returns-clause-known
returns-clause-known c = λ s v k bytes h is at known.
    c.stack_bytes.ensures ∙ buffer_known s c.args.self.now v c.args.address c.args.count k bytes h is at known
