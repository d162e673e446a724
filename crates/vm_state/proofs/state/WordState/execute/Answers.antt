use Rattle.std.proofs.Common.{rules, FitsSigned}
use Rattle.std.specs.Int.{w32}
use Rattle.std.proofs.lemmas.Int.{to_z-of_z}
use Rattle.vm_state.proofs.RunningOn.{plain_is}
use Rattle.vm_state.proofs.state.WordState.execute.Goals as goal

pub execute_plain-requires-clause-plain : goal.execute_plain-requires-clause-plain
execute_plain-requires-clause-plain c = plain_is c.args.instruction c.requires.no_call c.requires.no_exit c.in_default.not-LongJump

pub returns-in-LongJump : goal.returns-in-LongJump
returns-in-LongJump c = λ tables s h.
    let wide : FitsSigned w32 c.in-LongJump.distance = search rules in
    rw c.in-LongJump.is (simp to_z-of_z at c.long_jump.ensures tables s h)
