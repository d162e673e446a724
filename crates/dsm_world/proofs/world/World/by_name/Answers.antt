use Rattle.std.proofs.Common.{◌≡◌, List, option_map, ap, ◌∙◌}
use Rattle.log_model.specs.Log.{Catalogue, by_name}
use Rattle.replica.specs.Replica.{Replica}
use Rattle.catalogue.specs.Stored.{ListedProcedure, stored_procedures}
use Rattle.dsm_world.proofs.CallLemmas.{some_is}
use Rattle.dsm_world.proofs.world.World.by_name.Goals as goal

pub returns-clause-there : goal.returns-clause-there
returns-clause-there g c r at =
    let same : c.in_ok-replica.field-0.now ≡ r = some_is c.in_ok-replica.field-0.now r (c.in_ok-replica.ensures ∙ at) in
    c.by_name.ensures
    ∙ ap (λ (ls : List ListedProcedure). option_map (λ p. p.number) (by_name (stored_procedures ls) c.args.name.now)) (c.procedures.ensures ∙ ap (λ (x : Replica). x.procedures) same)
    ∙ ap (λ (ps : Catalogue). option_map (λ p. p.number) (by_name ps c.args.name.now)) (c.keeps_what_was_delivered.ensures.replicas c.args.replica r at).procedures
