use Rattle.std.proofs.Common.{◌≡◌, ◌∙◌, length, sym, ap, subst}
use Rattle.schema.specs.Rows.{Writes}
use Rattle.log_model.specs.Log.{certified_call_after, verdict_after}
use Rattle.log_model.specs.Entries.{ExecutedCall}
use Rattle.certify.specs.Comparisons.{comparisons_after}
use Rattle.certify.specs.Kept.{IsMemoryOf, IsPreparedOf}
use Rattle.rows_mv.specs.Versions.{IsInstalled}
use Rattle.replica.proofs.deliver.take_call.Goals as goal

pub returns-clause-certified : goal.returns-clause-certified
returns-clause-certified g c done past stands =
    let call = c.args.call.now in
    let before = c.args.certifier.now.memory in
    let request = ap (λ (e : ExecutedCall). e.call.request) (sym c.call.view_is) in
    let snapshot = ap (λ (e : ExecutedCall). e.call.snapshot) (sym c.call.view_is) in
    λ i. record {
      verdict = (c.verdict-verdict.ensures.verdict done past call.call stands request snapshot ∙ ap (λ (e : ExecutedCall). verdict_after before.window done past call.call e.looks) c.call.view_is) i;
      compared = (c.compared.ensures ∙ c.verdict-verdict.ensures.compared done past call.call stands request snapshot ∙ ap (λ (e : ExecutedCall). length (comparisons_after before.window done past call.call e.looks)) c.call.view_is) i;
    }

pub returns-clause-memory : goal.returns-clause-memory
returns-clause-memory g c done past stands =
    let call = c.args.call.now in
    let before = c.args.certifier.now.memory in
    c.keep.ensures.stands done past (certified_call_after before.window done past call.call call.looks call.writes)
    (subst (λ memory. IsMemoryOf memory done past) (sym (c.in_ok-prepared.ensures.memory ∙ c.verdict-verdict.ensures.memory)) stands)
    (ap (λ (e : ExecutedCall). verdict_after before.window done past call.call e.looks) (sym c.call.view_is)
    ∙ sym (c.verdict-verdict.ensures.verdict done past call.call stands (ap (λ (e : ExecutedCall). e.call.request) (sym c.call.view_is)) (ap (λ (e : ExecutedCall). e.call.snapshot) (sym c.call.view_is))))
    (ap (λ (e : ExecutedCall). e.call.request) (sym c.call.view_is) ∙ sym c.in_ok-prepared.ensures.request)
    (subst (λ (e : ExecutedCall). IsPreparedOf c.in_ok-prepared.prepared e.writes) c.call.view_is c.in_ok-prepared.ensures.keys)

pub returns-clause-installs : goal.returns-clause-installs
returns-clause-installs g c commits =
    let written : c.call.inside.writes ≡ c.args.call.now.writes = ap (λ call. call.writes) c.call.view_is in
    subst (λ (writes : Writes). IsInstalled c.args.position writes c.args.versions.now.tables c.install.new.versions.tables) written (c.in_ok-install.ensures.installs commits)
