use Rattle.std.proofs.Common.{◌≡◌, ◌∙◌, List, ℕ, ap, length, refl, rules}
use Rattle.vm_state.specs.Memory.{args_of}
use Rattle.vm_state.proofs.Holding.{entry_holds}
use Rattle.vm_state.proofs.OneMemory.{args_written, stack_long}
use Rattle.vm_state.proofs.state.WordState.restart.Goals as goal

pub returns : goal.returns
returns c = λ rows.
    let after = c.write.new.memory in
    let bytes = c.args.args.now in
    let long : length after ≡ 1024 = search rules in
    entry_holds bytes rows _ refl refl (stack_long after long)
    (ap (λ (l : List ℕ). args_of (length bytes) l) c.write.ensures ∙ args_written c.self.inside.memory bytes)
