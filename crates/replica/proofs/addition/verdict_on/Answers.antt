use Rattle.std.proofs.Common.{ℕ, List, ap, sym, ◌∙◌}
use Rattle.log_model.specs.Log.{verdict_on_addition}
use Rattle.catalogue.specs.Stored.{ListedProcedure, stored, stored_procedures}
use Rattle.replica.proofs.AdditionLemmas.{commits_new}
use Rattle.replica.proofs.addition.verdict_on.Goals as goal

pub returns-clause-verdict : goal.returns-clause-verdict
returns-clause-verdict g c =
    let p = c.args.added.now.accepted in
    c.verdict_on.ensures p.program p.args_len
    ∙ ap (λ (name : List ℕ). verdict_on_addition (stored_procedures c.args.procedures.now) (record { name = name; number = c.added.inside.number; program = p.program; args_len = p.args_len })) c.as_slice.ensures
    ∙ ap (λ (l : ListedProcedure). verdict_on_addition (stored_procedures c.args.procedures.now) (record { name = l.name; number = l.number; program = p.program; args_len = p.args_len })) c.added.view_is

pub returns-clause-unnamed : goal.returns-clause-unnamed
returns-clause-unnamed g c = λ commits. (commits_new (stored_procedures c.args.procedures.now) (stored c.args.added.now) (sym (returns-clause-verdict g c) ∙ commits)).0

pub returns-clause-unnumbered : goal.returns-clause-unnumbered
returns-clause-unnumbered g c = λ commits. (commits_new (stored_procedures c.args.procedures.now) (stored c.args.added.now) (sym (returns-clause-verdict g c) ∙ commits)).1
