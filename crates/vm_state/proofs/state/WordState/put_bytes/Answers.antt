use Rattle.vm_state.proofs.Storing.{buffer_holds}
use Rattle.vm_state.proofs.state.WordState.put_bytes.Goals as goal

pub returns-clause-held : goal.returns-clause-held
returns-clause-held c = λ s v k h is at.
    rw c.put.ensures (buffer_holds s c.args.self.now v c.args.address k c.args.bytes.now h is at)
