use Rattle.std.proofs.Common.{◌≡◌, length, refl, rules}
use Rattle.vm_state.proofs.Holding.{entry_holds}
use Rattle.vm_state.proofs.OneMemory.{stack_long}
use Rattle.vm_state.proofs.state.WordState.start.Goals as goal

pub returns : goal.returns
returns c = λ rows.
    let long : length c.memory_with.result ≡ 1024 = search rules in
    entry_holds c.args.args.now rows _ refl refl (stack_long c.memory_with.result long) c.memory_with.ensures
