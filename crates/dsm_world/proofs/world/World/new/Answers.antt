use Rattle.std.proofs.Common.{[], map, option_map, sym, ap, subst, ◌∙◌}
use Rattle.std.specs.List.{AllByRecursion}
use Rattle.log_model.specs.Entries.{items_of}
use Rattle.dsm_model.specs.World.{addition_count}
use Rattle.replica.specs.Replica.{IsForTables, entries_of}
use Rattle.dsm_world.specs.System.{progress_of}
use Rattle.dsm_world.specs.Together.{IsTogether, open_calls_of}
use Rattle.dsm_world.proofs.RunLemmas.{first_of, first_together}
use Rattle.dsm_world.proofs.world.World.new.Goals as goal

pub invariant_of-result : goal.invariant_of-result
invariant_of-result g c =
    let rs = c.in_ok-replicas.replicas.items in
    let first = first_together {A = g.row.A.Denot} c.args.catalogue c.args.window c.args.replicas rs c.steps_keep_a_world.ensures.first (c.catalogues_are_safe.ensures c.args.window) c.in_ok-replicas.ensures.count c.in_ok-replicas.ensures.first c.in_ok-replicas.ensures.running in
    record {
      together = subst (λ es. IsTogether (record { catalogue = c.args.catalogue; window = c.args.window; entries = entries_of es; replicas = rs; calls = open_calls_of (map (λ slot. option_map (λ b. b.value) slot) c.new-2.result.items) }) (map (λ slot. option_map (λ b. b.value) slot) c.new-2.result.items)) (sym c.new.ensures.items)
          (subst (λ xs. IsTogether (record { catalogue = c.args.catalogue; window = c.args.window; entries = []; replicas = rs; calls = open_calls_of (map (λ slot. option_map (λ b. b.value) slot) xs) }) (map (λ slot. option_map (λ b. b.value) slot) xs)) (sym c.new-2.ensures.items) first);
      for_tables = subst (λ es. AllByRecursion (IsForTables c.args.catalogue.tables) es) (sym c.new.ensures.items) tt;
      additions = ap (λ es. addition_count (items_of (entries_of es))) (sym c.new.ensures.items);
    }

pub returns-clause-first : goal.returns-clause-first
returns-clause-first g c =
    let rs = c.in_ok-replicas.replicas.items in
    ap (λ es. record { log = items_of (entries_of es); replicas = map progress_of rs; calls = open_calls_of (map (λ slot. option_map (λ b. b.value) slot) c.new-2.result.items) }) c.new.ensures.items
    ∙ ap (λ xs. record { log = []; replicas = map progress_of rs; calls = open_calls_of (map (λ slot. option_map (λ b. b.value) slot) xs) }) c.new-2.ensures.items
    ∙ first_of c.args.catalogue c.args.window c.args.replicas rs c.in_ok-replicas.ensures.count c.in_ok-replicas.ensures.running
