use Rattle.std.proofs.Common.{◌≡◌, ◌++◌, take, drop}
use Rattle.std.specs.Prelude.{bit_and}
use Rattle.abs_state.specs.State.{zip_with}
use Rattle.abs_state.proofs.stack_bytes.intersect.Given as goal

abbrev pub invariant-loop-index : goal.invariant-loop-index
invariant-loop-index l = take l.index l.words ++ zip_with bit_and (drop l.index l.words) (drop l.index l.others) ≡ zip_with bit_and l.fn.words l.others
