use Rattle.std.proofs.Common.{◌≡◌, ◌++◌, take, drop}
use Rattle.abs_state.specs.State.{kind_join, zip_with}
use Rattle.abs_state.proofs.state.join_kinds.Given as goal

abbrev pub invariant-loop-index : goal.invariant-loop-index
invariant-loop-index l = take l.index l.all ++ zip_with kind_join (drop l.index l.all) (drop l.index l.others) ≡ zip_with kind_join l.fn.all l.others
