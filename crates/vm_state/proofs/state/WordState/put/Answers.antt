use Rattle.std.proofs.Common.{◌∙◌, ap}
use Rattle.vm_state.specs.Words.{Words}
use Rattle.vm_state.specs.Access.{with_bytes}
use Rattle.vm_state.proofs.OneMemory.{written}
use Rattle.vm_state.proofs.state.WordState.put.Goals as goal

pub returns : goal.returns
returns c =
    written c.self.inside.slot c.self.inside.registers c.self.inside.memory c.write.new.memory c.args.bytes.now c.self.inside.args_len c.args.address c.place.result c.self.told.1 c.self.invariant c.place.ensures c.requires c.write.ensures
    ∙ ap (λ (m : Words). with_bytes m c.args.address c.args.bytes.now) c.self.view_is
