use Rattle.std.proofs.Common.{◌≡◌, ◌+◌, List, [], ◌∷◌, ◌++◌, refl, sym, ap, subst, ◌∙◌, arith, rules}
use Rattle.std.specs.Prelude.{Some}
use Rattle.log_model.specs.Log.{Beginning, verdict_of}
use Rattle.log_entry.specs.Kind.{entry_of}
use Rattle.log_model.specs.Entries.{Entry, items_of, certified_entry, certified_entries_of}
use Rattle.catalogue.specs.Stored.{AreForTables}
use Rattle.replica.specs.Replica.{Replica, StandsFor, AreEntriesOf}
use Rattle.replica.proofs.LogLemmas.{delivered_by, delivered_verdict, next_follows, rows_follow, procedures_follow, stands_after}
use Rattle.replica.proofs.replica.Replica.deliver.Goals as goal

abbrev entries_after : List Entry → Entry → List Entry
entries_after entries e = entries ++ e ∷ []

pub returns-clause-delivered : goal.returns-clause-delivered
returns-clause-delivered g c =
    let e = entry_of c.args.entry.now in
    let old : Replica = record {
      window = c.self.inside.window;
      position = c.self.inside.position;
      stopped = c.self.inside.stopped;
      certifications = c.self.inside.certifications.items;
      memory = c.self.inside.certifier.memory;
      versions = c.self.inside.versions;
      procedures = c.self.inside.procedures;
    } in
    let new : Replica = record {
      window = c.self.inside.window;
      position = c.self.inside.position + 1;
      stopped = c.self.inside.stopped;
      certifications = c.take_entry-taken.new.certifications.items;
      memory = c.take_entry-taken.new.certifier.memory;
      versions = c.drop_unseen-self-inside.new.versions;
      procedures = c.take_entry-taken.new.procedures;
    } in
    let stands : (base : Beginning) (past : List Entry) → StandsFor base c.args.self.now past → StandsFor base new (entries_after past e) = λ base past.
    subst (λ (r : Replica). StandsFor base r past → StandsFor base new (entries_after past e)) c.self.view_is
    (c.deliveries_are_kept.ensures.delivered base old new e c.in-Ok.certification c.take_entry-taken.new.versions.tables past
    (record {
      window = refl;
      position = refl;
      certified = c.in-Ok.ensures.taken.certified;
      certifications = c.in-Ok.ensures.taken.entered;
      kept = c.in-Ok.ensures.taken.kept;
      same_window = c.take_entry-taken.ensures.window;
      installs = c.in-Ok.ensures.taken.installs;
      refuses = c.in-Ok.ensures.taken.refuses;
      pruned = c.drop_unseen-self-inside.ensures.seen;
      horizon = c.drop_unseen-self-inside.ensures.horizon;
    })) in
    record {
      position = search rules;
      running = search rules;
      stands = stands;
      verdict = λ base past is. subst (λ (r : Replica). c.in-Ok.certification.verdict ≡ (certified_entry r.window (certified_entries_of r.window base past) e).verdict) c.self.view_is
          (delivered_by base old past e c.in-Ok.certification c.in-Ok.ensures.taken.certified (subst (λ (r : Replica). StandsFor base r past) (sym c.self.view_is) is));
      log_verdict = λ w past. subst (λ (r : Replica). w.window ≡ r.window → StandsFor w.beginning r past → AreEntriesOf w (entries_after past e)
          → verdict_of w (items_of (entries_after past e)) (c.self.inside.position + 1) ≡ Some c.in-Ok.certification.verdict) c.self.view_is
          (delivered_verdict (next_follows c.entries_suffice.ensures.verdicts) w old past e c.in-Ok.certification c.in-Ok.ensures.taken.certified);
      log_rows = λ w past window is are.
          rows_follow c.entries_suffice.ensures.rows w new (entries_after past e) (c.self.inside.position + 1)
          (window ∙ sym (ap (λ (r : Replica). r.window) c.self.view_is)) (stands w.beginning past is) are (omega arith) (omega arith);
      log_procedures = λ w past window is are.
          procedures_follow c.entries_suffice.ensures.procedures w new (entries_after past e)
          (window ∙ sym (ap (λ (r : Replica). r.window) c.self.view_is)) (stands w.beginning past is) are;
    }

pub returns-clause-for_tables : goal.returns-clause-for_tables
returns-clause-for_tables g c tables before added =
    c.take_entry-taken.ensures.for_tables tables (subst (λ (r : Replica). AreForTables tables r.procedures) (sym c.self.view_is) before) added

pub returns-clause-one_more : goal.returns-clause-one_more
returns-clause-one_more g c w past is added =
    stands_after c.tables_take_the_schemas_writes.ensures.kept w c.args.self.now _ past (past ++ entry_of c.args.entry.now ∷ []) is
    ((returns-clause-delivered g c).stands w.beginning past) (search rules)
    (λ before. returns-clause-for_tables g c w.tables before added)
