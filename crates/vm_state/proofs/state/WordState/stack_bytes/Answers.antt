use Rattle.std.proofs.Common.{◌∙◌, ap, take}
use Rattle.vm_state.specs.Words.{Words}
use Rattle.vm_state.specs.Access.{stack_from}
use Rattle.vm_state.proofs.OneMemory.{stack_part}
use Rattle.vm_state.proofs.state.WordState.stack_bytes.Goals as goal

pub returns : goal.returns
returns c =
    c.part.ensures ∙ stack_part c.self.inside.memory c.args.address c.args.count c.requires
    ∙ ap (λ (m : Words). take c.args.count (stack_from m c.args.address)) c.self.view_is
