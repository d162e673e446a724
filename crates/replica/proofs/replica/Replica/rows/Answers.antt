use Rattle.std.proofs.Common.{◌∙◌, sym, ap, subst, arith}
use Rattle.std.proofs.lemmas.Result.{IfOk-weaker}
use Rattle.std.specs.FinMap.{entries}
use Rattle.replica.specs.Replica.{Replica, StandsFor, rows_kept}
use Rattle.replica.proofs.replica.Replica.rows.Goals as goal

pub returns : goal.returns
returns g c =
    let me = c.self.inside in
    IfOk-weaker c.rows_at.result _ _
    (λ list listed base past stands.
    let inside = subst (λ (r : Replica). StandsFor base r past) (sym c.self.view_is) stands in
    listed (rows_kept me.window base past me.position) (inside.rows me.position (omega arith))
    ∙ ap (λ (r : Replica). entries (rows_kept r.window base past r.position)) c.self.view_is)
    c.rows_at.ensures
