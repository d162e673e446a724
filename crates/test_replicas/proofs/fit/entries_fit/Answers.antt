use Rattle.std.proofs.Common.{◌≡◌, ◌≤◌, sym, subst, arith}
use Rattle.std.proofs.lemmas.List.Elements.{AllWithin-more, at_read}
use Rattle.schema.specs.Rows.{AreWrites}
use Rattle.log_model.specs.Log.{IsPlaced}
use Rattle.log_model.specs.Entries.{item_of}
use Rattle.log_entry.specs.Kind.{entry_of}
use Rattle.replica.specs.Replica.{IsForTables, IsNamed, writes_in}
use Rattle.test_replicas.proofs.FitLemmas.{log_more}
use Rattle.test_replicas.proofs.fit.entries_fit.Goals as goal

pub loop-before-preserved : goal.loop-before-preserved
loop-before-preserved g c =
    let entries = c.args.entries.now in
    let before = c.loop-before.before in
    let entry = c.index-entries-before.result in
    let fits = c.if-not-entry_fits.false in
    record {
      log = λ later. c.loop-before.invariant.log (log_more entries before entry c.loop-before-test.true c.index-entries-before.is (c.entry_fits.ensures.placed fits) later);
      writes = AllWithin-more (λ e. AreWrites c.args.schema.now (writes_in (entry_of e))) entries 0 before c.loop-before.invariant.writes
          (at_read entries (λ e. AreWrites c.args.schema.now (writes_in (entry_of e))) before entry c.loop-before-test.true c.index-entries-before.is (c.entry_fits.ensures.writes fits));
      named = AllWithin-more (λ e. IsNamed (entry_of e)) entries 0 before c.loop-before.invariant.named
          (at_read entries (λ e. IsNamed (entry_of e)) before entry c.loop-before-test.true c.index-entries-before.is (c.entry_fits.ensures.named fits));
      for_tables = AllWithin-more (λ e. IsForTables c.args.schema.now e) entries 0 before c.loop-before.invariant.for_tables
          (at_read entries (λ e. IsForTables c.args.schema.now e) before entry c.loop-before-test.true c.index-entries-before.is (c.entry_fits.ensures.for_tables fits));
    }
