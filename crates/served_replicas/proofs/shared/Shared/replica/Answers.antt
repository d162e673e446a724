use Rattle.std.proofs.Common.{◌∙◌, ap, subst}
use Rattle.served_replicas.specs.Replicas.{IsNoReplica, SharedState}
use Rattle.served_replicas.proofs.shared.Shared.replica.Goals as goal

pub returns-in-None-clause-none : goal.returns-in-None-clause-none
returns-in-None-clause-none g c =
    let count = c.deref.ensures.len ∙ ap (λ (s : SharedState). s.replicas) c.self.view_is in
    subst (λ n. IsNoReplica n c.args.number) count c.in-None.ensures.none
