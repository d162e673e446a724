use Rattle.catalogue.specs.Catalogue.{beginning_of}
use Rattle.std.proofs.Common.{◌≡◌, ◌-◌, ◌≤◌, nat_lt, take, Some, false, subst, sym, ap, ◌∙◌, arith}
use Rattle.schema.specs.Rows.{Rows}
use Rattle.rows_mv.specs.Versions.{AnswersFrom}
use Rattle.dsm_model.specs.World.{numbered}
use Rattle.dsm_world.proofs.RowLemmas.{rows_are, same_position}
use Rattle.dsm_world.proofs.world.World.at.Goals as goal

pub returns-clause-rows : goal.returns-clause-rows
returns-clause-rows g c =
    let s = c.args.self.now in
    let r = c.in_ok-kept.kept.now in
    let at : numbered s.replicas c.args.replica ≡ Some r = sym c.in_ok-kept.ensures in
    let keeps = c.keeps_what_was_delivered.ensures.replicas c.args.replica r at in
    let reached : c.args.position ≤ r.position = (let p = c.position.ensures in let ge = c.if-position.false in omega arith) in
    subst (λ (rows : Rows). c.at.result.gone ≡ false → AnswersFrom c.at.result.versions.now.tables c.at.result.position rows) (rows_are c.entries_suffice.ensures.rows s r c.args.position keeps reached)
    (c.at.ensures.answers (beginning_of s.catalogue) (take r.position s.entries) keeps.delivered)

pub returns-clause-gone : goal.returns-clause-gone
returns-clause-gone g c m there =
    let s = c.args.self.now in
    let r = c.in_ok-kept.kept.now in
    let at : numbered s.replicas c.args.replica ≡ Some r = sym c.in_ok-kept.ensures in
    let keeps = c.keeps_what_was_delivered.ensures.replicas c.args.replica r at in
    c.at.ensures.gone ∙ ap (λ w. nat_lt w (r.position - c.args.position)) keeps.window
    ∙ ap (λ p. nat_lt s.window (p - c.args.position)) (same_position s c.args.replica r m at there)
