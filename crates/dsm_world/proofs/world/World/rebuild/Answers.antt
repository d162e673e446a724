use Rattle.catalogue.specs.Catalogue.{beginning_of}
use Rattle.std.proofs.Common.{List, All, length, slice_set, refl, sym, ap, subst, ◌∙◌, arith}
use Rattle.std.proofs.lemmas.List.Elements.{All-from_recursion}
use Rattle.schema.specs.Rows.{AreWrites}
use Rattle.dsm_model.specs.declared.outcome.StepRefusal.TheVariants.{NoMemory}
use Rattle.dsm_model.specs.declared.outcome.Outcome.TheVariants.{Rebuilt, Refused}
use Rattle.log_model.specs.Log.{IsLog}
use Rattle.log_model.specs.Entries.{items_of}
use Rattle.std.proofs.lemmas.List.{length-map}
use Rattle.log_entry.specs.Kind.{entry_of}
use Rattle.dsm_model.specs.World.{Rebuild, IsStep}
use Rattle.replica.specs.Replica.{Replica, StandsFor, IsForTables, IsNamed, entries_of, writes_in}
use Rattle.dsm_world.specs.System.{setting_of, progress_of, world_of}
use Rattle.dsm_world.specs.Together.{IsTogether}
use Rattle.dsm_world.specs.Fields.{system_of, call_slots}
use Rattle.dsm_world.proofs.Numbered.{set_same}
use Rattle.dsm_world.proofs.StepLemmas.{rebuild_no_replica, rebuild_without_memory}
use Rattle.dsm_world.proofs.ReplicaLemmas.{with_one, rebuilt, rebuilt_replica, replica_at, held_at, no_replica, all_in_code, entries_are_few}
use Rattle.dsm_world.proofs.FieldLemmas.{step_kept, still_consistent, replica_consistent}
use Rattle.dsm_world.proofs.world.World.rebuild.Goals as goal

pub returns-in_default-clause-step : goal.returns-in_default-clause-step
returns-in_default-clause-step g c =
    rw (← c.self.view_is) (
    let s = system_of c.self.inside in
    rebuild_no_replica (setting_of s) (world_of s) c.args.replica (no_replica s c.args.replica c.len.result (let e = c.len.ensures in omega arith) (c.in_default.ensures.none refl))
    )

pub rebuild-requires-clause-fit : goal.rebuild-requires-clause-fit
rebuild-requires-clause-fit g c =
    let s = system_of c.self.inside in
    subst (λ xs. All (λ e. AreWrites s.catalogue.tables (writes_in (entry_of e))) xs) (sym c.deref.ensures.value)
    (All-from_recursion (λ e. AreWrites s.catalogue.tables (writes_in (entry_of e))) c.self.inside.entries.items (all_in_code (λ e. AreWrites s.catalogue.tables (writes_in e)) c.self.inside.entries.items c.self.invariant.together.writes))

pub rebuild-requires-clause-named : goal.rebuild-requires-clause-named
rebuild-requires-clause-named g c =
    subst (λ xs. All (λ e. IsNamed (entry_of e)) xs) (sym c.deref.ensures.value)
    (All-from_recursion (λ e. IsNamed (entry_of e)) c.self.inside.entries.items (all_in_code IsNamed c.self.inside.entries.items c.self.invariant.together.named))

pub rebuild-requires-clause-for_tables : goal.rebuild-requires-clause-for_tables
rebuild-requires-clause-for_tables g c =
    let s = system_of c.self.inside in
    subst (λ xs. All (λ e. IsForTables s.catalogue.tables e) xs) (sym c.deref.ensures.value)
    (All-from_recursion (λ e. IsForTables s.catalogue.tables e) c.self.inside.entries.items c.self.invariant.for_tables)

pub rebuild-requires-clause-log : goal.rebuild-requires-clause-log
rebuild-requires-clause-log g c = subst (λ xs. IsLog (items_of (entries_of xs))) (sym c.deref.ensures.value) c.self.invariant.together.entries.log

pub rebuild-requires-clause-few : goal.rebuild-requires-clause-few
rebuild-requires-clause-few g c =
    let s = system_of c.self.inside in
    let few = entries_are_few s (call_slots c.self.inside) c.self.invariant.together in
    let many = length-map c.self.inside.entries.items entry_of in
    let same = ap (λ xs. length xs) c.deref.ensures.value in
    omega arith

pub returns-clause-step : goal.returns-clause-step
returns-clause-step g c =
    rw (← c.self.view_is) (
    let s = system_of c.self.inside in
    let old = c.index_mut.result.now in
    let new = c.rebuild.new.self in
    let at = held_at c.self.inside c.len.result c.in-Some.at old c.in-Some.ensures.there.1 c.len.ensures c.index_mut.ensures.value in
    let position = c.in-Ok.ensures.position ∙ ap (λ xs. length xs) c.deref.ensures.value ∙ sym (length-map c.self.inside.entries.items entry_of) in
    subst (λ n. IsStep (setting_of s) (world_of s) (Rebuild c.args.replica) (Rebuilt n) (world_of (with_one s c.in-Some.at new))) (sym position)
    (rebuilt s c.args.replica c.in-Some.at old new c.in-Some.ensures.there.0 at (subst (λ xs. StandsFor (beginning_of s.catalogue) new (entries_of xs)) c.deref.ensures.value c.in-Ok.ensures.stands) c.in-Ok.ensures.running)
    )

pub invariant_of-self-2 : goal.invariant_of-self-2
invariant_of-self-2 g c =
    let s = system_of c.self.inside in
    let old = c.index_mut.result.now in
    let new = c.rebuild.new.self in
    let at = held_at c.self.inside c.len.result c.in-Some.at old c.in-Some.ensures.there.1 c.len.ensures c.index_mut.ensures.value in
    replica_consistent c.self.inside _ c.in-Some.at new c.self.invariant (refl, refl, refl, refl)
    (rebuilt_replica s (call_slots c.self.inside) c.in-Some.at old new c.self.invariant.together at (subst (λ xs. StandsFor (beginning_of s.catalogue) new (entries_of xs)) c.deref.ensures.value c.in-Ok.ensures.stands) c.in-Ok.ensures.window c.in-Ok.ensures.tables c.in-Ok.ensures.procedures)
    (step_kept s c.args.self.now _ _ _ c.self.view_is (c.steps_keep_a_world.ensures.step (setting_of c.args.self.now)) tt (returns-clause-step g c) c.self.invariant.together.world)

pub returns-in_default-rebuild-clause-step : goal.returns-in_default-rebuild-clause-step
returns-in_default-rebuild-clause-step g c =
    rw (← c.self.view_is) (
    let s = system_of c.self.inside in
    let old = c.index_mut.result.now in
    let at = held_at c.self.inside c.len.result c.in-Some.at old c.in-Some.ensures.there.1 c.len.ensures c.index_mut.ensures.value in
    let same = ap (λ (r : Replica). slice_set s.replicas c.in-Some.at r) c.in_default-rebuild.ensures.unchanged ∙ set_same s.replicas c.in-Some.at old at in
    subst (λ (rs : List Replica). IsStep (setting_of s) (world_of s) (Rebuild c.args.replica) (Refused NoMemory) (world_of (record s { replicas = rs }))) (sym same)
    (rebuild_without_memory (setting_of s) (world_of s) c.args.replica (progress_of old) (replica_at s c.args.replica c.in-Some.at old c.in-Some.ensures.there.0 at))
    )

pub invariant_of-self : goal.invariant_of-self
invariant_of-self g c =
    let s = system_of c.self.inside in
    let old = c.index_mut.result.now in
    let at = held_at c.self.inside c.len.result c.in-Some.at old c.in-Some.ensures.there.1 c.len.ensures c.index_mut.ensures.value in
    let same = ap (λ (r : Replica). slice_set s.replicas c.in-Some.at r) c.in_default-rebuild.ensures.unchanged ∙ set_same s.replicas c.in-Some.at old at in
    still_consistent c.self.inside _ c.self.invariant refl refl refl (
    subst (λ (rs : List Replica). IsTogether (record s { replicas = rs }) (call_slots c.self.inside)) (sym same) c.self.invariant.together
    )
