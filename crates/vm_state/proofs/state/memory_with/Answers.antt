use Rattle.std.proofs.Common.{List, ℕ, length, replicate, ◌∙◌, ap}
use Rattle.vm_state.specs.Memory.{args_of}
use Rattle.vm_state.proofs.OneMemory.{args_written}
use Rattle.vm_state.proofs.state.memory_with.Goals as goal

pub returns : goal.returns
returns c =
    ap (λ (l : List ℕ). args_of (length c.args.args.now) l) c.write.ensures ∙ args_written (replicate 1024 0) c.args.args.now
