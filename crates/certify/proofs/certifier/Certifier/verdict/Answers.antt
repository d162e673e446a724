use Rattle.std.proofs.Common.{◌≡◌, ℕ, List, Option, Some, None, cond, is_some, length, drop, nat_le, sym, ap, subst, ◌∙◌}
use Rattle.schema.specs.Rows.{Writes}
use Rattle.log_model.specs.declared.request.RequestId.{RequestId}
use Rattle.log_model.specs.Log.{DoneRequest, CertifiedItem, Call, done_at, first_repeated, verdict_after}
use Rattle.certify.specs.Comparisons.{comparisons_after}
use Rattle.certify.specs.Kept.{CertifierState, IsMemoryOf, IsMemoryOfLatest, latest_of}
use Rattle.certify.proofs.VerdictLemmas.{repeated_verdict, none_compared_again, none_left_of}
use Rattle.certify.proofs.certifier.Certifier.verdict.Given as given
use Rattle.certify.proofs.certifier.Certifier.verdict.Goals as goal

pub returns-in-Some-clause-verdict : goal.returns-in-Some-clause-verdict
returns-in-Some-clause-verdict g c = λ done past x stands request snapshot.
    let inside = subst (λ (s : CertifierState). IsMemoryOf s.memory done past) (sym c.self.view_is) stands in
    let found : first_repeated done past x ≡ Some c.in-Some.repeated =
    ap (λ (r : Option RequestId). done_at done past r) request ∙ sym (c.repeated_in.ensures done past inside.requests) ∙ c.in-Some.is in
    repeated_verdict c.args.self.now.memory.window done past x c.args.call.now.reads.now c.in-Some.repeated found

pub returns-in-Some-clause-compared : goal.returns-in-Some-clause-compared
returns-in-Some-clause-compared g c = λ done past x stands request snapshot.
    let inside = subst (λ (s : CertifierState). IsMemoryOf s.memory done past) (sym c.self.view_is) stands in
    let found : first_repeated done past x ≡ Some c.in-Some.repeated =
    ap (λ (r : Option RequestId). done_at done past r) request ∙ sym (c.repeated_in.ensures done past inside.requests) ∙ c.in-Some.is in
    none_compared_again c.args.self.now.memory.window done past x c.args.call.now.reads.now c.in-Some.repeated found

latest : (g : given.Over) → (c : goal.After-self-2-1 g) → (done : List DoneRequest) (past : List CertifiedItem) → IsMemoryOf c.args.self.now.memory done past
    → IsMemoryOfLatest (latest_of c.self.inside.window c.self.inside.count c.deref.result.now c.deref-2.result.now) past
latest g c done past stands =
    let inside = subst (λ (s : CertifierState). IsMemoryOf s.memory done past) (sym c.self.view_is) stands in
    subst (λ (blocks : List (List (List ℕ))). IsMemoryOfLatest (latest_of c.self.inside.window c.self.inside.count blocks c.deref-2.result.now) past) (sym c.deref.ensures.value)
    (subst (λ (writes : List Writes). IsMemoryOfLatest (latest_of c.self.inside.window c.self.inside.count c.self.inside.blocks.items writes) past) (sym c.deref-2.ensures.value)
    (record { count = inside.count; kept = inside.kept }))

new : (g : given.Over) → (c : goal.After-self-2-1 g) → (done : List DoneRequest) (past : List CertifiedItem) (x : Call) → IsMemoryOf c.args.self.now.memory done past → x.request ≡ c.args.call.now.request → first_repeated done past x ≡ None
new g c done past x stands request =
    let inside = subst (λ (s : CertifierState). IsMemoryOf s.memory done past) (sym c.self.view_is) stands in
    ap (λ (r : Option RequestId). done_at done past r) request ∙ sym (c.repeated_in.ensures done past inside.requests) ∙ none_left_of c.repeated_in.result c.in_default.not-Some

pub returns-clause-verdict : goal.returns-clause-verdict
returns-clause-verdict g c = λ done past x stands request snapshot.
    c.find_verdict-verdict.ensures.verdict done past x snapshot (new g c done past x stands request) (latest g c done past stands)
    ∙ ap (λ (s : CertifierState). verdict_after s.memory.window done past x c.args.call.now.reads.now) c.self.view_is

pub returns-clause-compared : goal.returns-clause-compared
returns-clause-compared g c = λ done past x stands request snapshot.
    c.find_verdict-verdict.ensures.compared done past x snapshot (new g c done past x stands request) (latest g c done past stands)
    ∙ ap (λ (s : CertifierState). length (comparisons_after s.memory.window done past x c.args.call.now.reads.now)) c.self.view_is
