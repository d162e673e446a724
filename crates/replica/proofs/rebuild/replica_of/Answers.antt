use Rattle.std.proofs.Common.{◌≡◌, ℕ, ◌+◌, [], ◌∷◌, ◌++◌, take, sym, ap, subst, ◌∙◌, arith}
use Rattle.std.specs.Prelude.{slice_index_or}
use Rattle.std.proofs.lemmas.List.{take_more, take_all, map-append}
use Rattle.schema.specs.Rows.{AreWrites}
use Rattle.log_entry.specs.Kind.{entry_of}
use Rattle.log_model.specs.Log.{IsPlaced}
use Rattle.log_model.specs.Entries.{item_of}
use Rattle.catalogue.specs.Catalogue.{beginning_of}
use Rattle.replica.specs.Replica.{StandsFor, IsForTables, IsNamed, entries_of, writes_in}
use Rattle.replica.proofs.FitLemmas.{placed_in_code}
use Rattle.replica.proofs.rebuild.replica_of.Goals as goal

pub deliver-requires-clause-placed : goal.deliver-requires-clause-placed
deliver-requires-clause-placed g c =
    let same = sym c.entry-item.is in
    let position = c.loop-entry.invariant.position in
    let at : 0 + c.loop-entry.entry-index ≡ c.loop-entry.replica.position = omega arith in
    subst (λ e. IsPlaced c.loop-entry.replica.position (item_of (entry_of e))) same
    (subst (λ (n : ℕ). IsPlaced n (item_of (entry_of (slice_index_or c.args.entries.now c.loop-entry.entry-index c.entry-item.result)))) at
    (placed_in_code 0 c.args.entries.now c.loop-entry.entry-index c.entry-item.result c.requires.log c.loop-entry-test.true))

pub deliver-requires-clause-fit : goal.deliver-requires-clause-fit
deliver-requires-clause-fit g c =
    c.tables_take_the_schemas_writes.ensures.fit c.args.catalogue.now.tables c.loop-entry.replica.versions (writes_in (entry_of c.entry-item.result)) c.loop-entry.invariant.tables
    (subst (λ e. AreWrites c.args.catalogue.now.tables (writes_in (entry_of e))) (sym c.entry-item.is) (c.requires.fit c.loop-entry.entry-index c.entry-item.result c.loop-entry-test.true))

pub deliver-requires-clause-named : goal.deliver-requires-clause-named
deliver-requires-clause-named g c = subst (λ e. IsNamed (entry_of e)) (sym c.entry-item.is) (c.requires.named c.loop-entry.entry-index c.entry-item.result c.loop-entry-test.true)

pub loop-entry-init : goal.loop-entry-init
loop-entry-init g c = record {
  stands = c.in_ok-replica.ensures.stands;
  position = c.in_ok-replica.ensures.stands.position;
  window = c.in_ok-replica.ensures.window;
  running = c.in_ok-replica.ensures.running;
  tables = c.in_ok-replica.ensures.tables;
  procedures = c.in_ok-replica.ensures.for_tables;
}

pub loop-entry-preserved : goal.loop-entry-preserved
loop-entry-preserved g c =
    let before = take c.loop-entry.entry-index c.args.entries.now in
    record {
      stands = subst (StandsFor (beginning_of c.args.catalogue.now) c.deliver.new.self)
          (sym (map-append entry_of before (c.entry-item.result ∷ [])) ∙ ap (λ e. entries_of (before ++ e ∷ [])) c.entry-item.is ∙ ap entries_of (sym (take_more c.args.entries.now c.loop-entry.entry-index c.entry-item.result c.loop-entry-test.true)))
          (c.in-Ok.ensures.delivered.stands (beginning_of c.args.catalogue.now) (entries_of before) c.loop-entry.invariant.stands);
      position = c.in-Ok.ensures.delivered.position ∙ ap (λ (n : ℕ). n + 1) c.loop-entry.invariant.position;
      window = c.deliver.ensures.same_tables.window ∙ c.loop-entry.invariant.window;
      running = c.in-Ok.ensures.delivered.running;
      tables = c.tables_take_the_schemas_writes.ensures.kept c.args.catalogue.now.tables c.loop-entry.replica.versions.tables c.deliver.new.self.versions.tables
          c.deliver.ensures.same_tables.widths c.deliver.ensures.same_tables.count c.loop-entry.invariant.tables;
      procedures = c.deliver.ensures.for_tables c.args.catalogue.now.tables c.loop-entry.invariant.procedures (subst (λ e. IsForTables c.args.catalogue.now.tables e) (sym c.entry-item.is) (c.requires.for_tables c.loop-entry.entry-index c.entry-item.result c.loop-entry-test.true));
    }

pub returns-clause-stands : goal.returns-clause-stands
returns-clause-stands g c =
    subst (λ es. StandsFor (beginning_of c.args.catalogue.now) c.loop-entry.replica (entries_of es)) (take_all c.loop-entry.entry-index c.args.entries.now c.loop-entry-test.false) c.loop-entry.invariant.stands
