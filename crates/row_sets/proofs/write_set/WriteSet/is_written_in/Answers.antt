use Rattle.std.proofs.Common.{◌∙◌, ap, is_some}
use Rattle.std.specs.Prelude.{slice_get}
use Rattle.std.specs.Slice.Iter.{iter_rest}
use Rattle.std.specs.FinMap.{entries}
use Rattle.schema.specs.Rows.{covers}
use Rattle.row_sets.proofs.WriteLemmas.{any_filtered, some_taken}
use Rattle.row_sets.proofs.write_set.WriteSet.is_written_in.Goals as goal

pub returns : goal.returns
returns g c = c.is_some.ensures ∙ some_taken _ c.next.result (iter_rest c.range.result) _ c.next.ensures.steps
    ∙ ap (λ es. is_some (slice_get es 0)) c.range.ensures.rest ∙ any_filtered (λ e. e.0) (covers c.args.look) (entries c.args.self.now)
