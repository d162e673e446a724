use Rattle.std.proofs.Common.{◌≡◌, ◌⊎◌, ℕ, List}
use Rattle.std.specs.Slice.Iter.{iter_rest}
use Rattle.std.specs.Prelude.{Option, Some}
use Rattle.std.specs.FinMap.{get, find}
use Rattle.schema.specs.Rows.{Key, key_cmp, IsWrite}
use Rattle.test_replicas.proofs.fit.writes_fit.Given as goal

abbrev pub invariant-loop-key : goal.invariant-loop-key
invariant-loop-key g l = (k : Key) (write : Option (List ℕ)) → get l.fn.writes k ≡ Some write → IsWrite l.fn.schema k write ⊎ (find key_cmp k (iter_rest l.key-iterator) ≡ Some write)
