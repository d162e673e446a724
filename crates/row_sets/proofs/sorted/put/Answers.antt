use Rattle.std.proofs.Common.{◌∙◌, ◌<◌, ◌≤◌, length, ap, subst}
use Rattle.std.specs.List.{insert}
use Rattle.schema.specs.Rows.{key_cmp_total, key_cmp-IsAntisymmetric}
use Rattle.row_sets.proofs.OrderLemmas.{IsThere, IsInsertionPoint, put_there, put_new}
use Rattle.row_sets.proofs.sorted.put.Goals as goal

pub returns-in-Ok-clause-done : goal.returns-in-Ok-clause-done
returns-in-Ok-clause-done g c = put_there key_cmp_total c.args.key key_cmp-IsAntisymmetric c.args.write c.args.writes.now.items c.in-Ok.at (c.args.key, c.args.write) c.requires
    (subst (λ ws. c.in-Ok.at < length ws) c.deref.ensures.value c.in-Ok.ensures.within)
    (subst (λ ws. IsThere key_cmp_total c.args.key ws c.in-Ok.at) c.deref.ensures.value c.in-Ok.ensures.found)

pub returns-in_ok-insert-in-Err-clause-done : goal.returns-in_ok-insert-in-Err-clause-done
returns-in_ok-insert-in-Err-clause-done g c =
    c.in_ok-insert-in-Err.ensures.items
    ∙ ap (λ ws. insert ws c.in-Err.at (c.args.key, c.args.write)) c.take_room.ensures
    ∙ put_new key_cmp_total c.args.key c.args.write c.args.writes.now.items c.in-Err.at
    (subst (λ ws. c.in-Err.at ≤ length ws) c.deref.ensures.value c.in-Err.ensures.within)
    (subst (λ ws. IsInsertionPoint key_cmp_total c.args.key ws c.in-Err.at) c.deref.ensures.value c.in-Err.ensures.absent)
