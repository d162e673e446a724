use Rattle.std.proofs.Common.{◌∙◌, ap, rules, tests}
use Rattle.std.specs.Prelude.{Option, List, ℕ}
use Rattle.std.specs.FinMap.{len, empty_of_len, len-empty}
use Rattle.schema.specs.Rows.{key_cmp}
use Rattle.row_sets.proofs.write_set.WriteSet.is_empty.Goals as goal

pub returns : goal.returns
returns g c = ((λ yes. empty_of_len c.args.self.now (search (rules, tests))), (λ same. let none = ap len same ∙ len-empty key_cmp (Option (List ℕ)) in search (rules, tests)))
