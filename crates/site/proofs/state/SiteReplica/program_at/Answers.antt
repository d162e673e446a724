use Rattle.std.proofs.Common.{◌≡◌, ℕ, ◌≤◌, List, option_map, ◌∙◌, ap, arith}
use Rattle.std.proofs.lemmas.Bool.Decides.{nat_tests}
use Rattle.catalogue.specs.Stored.{ListedProcedure, listed_by_number}
use Rattle.site.specs.Replica.{SiteReplica, since_of}
use Rattle.site.proofs.SiteLemmas.{found_at}
use Rattle.site.proofs.state.SiteReplica.program_at.Goals as goal

pub returns : goal.returns
returns g c entries stands =
    let s = c.args.self.now in
    let additions : c.deref.result.now ≡ s.additions = c.deref.ensures.value ∙ ap (λ (x : SiteReplica). x.additions) c.self.view_is in
    let since : c.since.result ≡ since_of s.additions c.args.number = c.since.ensures ∙ ap (λ (xs : List (ℕ × ℕ)). since_of xs c.args.number) additions in
    let late = c.if-since-position.false in
    let from : since_of s.additions c.args.number ≤ c.args.position = grind (arith, nat_tests) in
    found_at s entries c.args.number c.args.position _ c.entries_suffice.ensures.procedures stands c.requires from
    (c.by_number.ensures ∙ ap (λ (held : List ListedProcedure). option_map (λ (l : ListedProcedure). l.accepted) (listed_by_number held c.args.number)) (c.procedures.ensures ∙ ap (λ (x : SiteReplica). x.replica.procedures) c.self.view_is))
