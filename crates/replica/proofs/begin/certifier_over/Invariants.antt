use Rattle.std.proofs.Common.{◌≡◌, [], take}
use Rattle.certify.specs.Kept.{IsMemoryOf}
use Rattle.replica.proofs.begin.certifier_over.Given as goal

abbrev pub invariant-loop-one : goal.invariant-loop-one
invariant-loop-one g l = record {
  stands : IsMemoryOf l.certifier.memory (take l.one-index l.done) [];
  window : l.certifier.memory.window ≡ l.window;
  count : l.certifier.memory.count ≡ 0;
}
