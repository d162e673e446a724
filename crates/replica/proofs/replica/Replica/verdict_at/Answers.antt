use Rattle.std.proofs.Common.{◌≡◌, ℕ, ◌+◌, ◌-◌, Some, slice_get, sym, ap, subst, ◌∙◌, arith}
use Rattle.log_model.specs.Log.{verdict_of}
use Rattle.log_model.specs.Entries.{items_of}
use Rattle.replica.specs.Replica.{Replica}
use Rattle.replica.proofs.LogLemmas.{verdicts_follow}
use Rattle.replica.proofs.replica.Replica.verdict_at.Goals as goal

pub returns-clause-log_verdict : goal.returns-clause-log_verdict
returns-clause-log_verdict g c w entries window stands are =
    let before = c.args.position - 1 in
    let next : before + 1 ≡ c.args.position = omega (arith, c.requires.from) in
    subst (λ (n : ℕ). verdict_of w (items_of entries) n ≡ Some c.at.result.verdict) next
    (verdicts_follow c.entries_suffice.ensures.verdicts w c.args.self.now entries before c.at.result window stands are
    (ap (λ (r : Replica). slice_get r.certifications before) (sym c.self.view_is) ∙ c.at.ensures.found))
