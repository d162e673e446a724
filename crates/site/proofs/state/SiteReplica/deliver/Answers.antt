use Rattle.std.proofs.Common.{◌≡◌, ℕ, ◌+◌, length, Some, List, [], ◌∷◌, ◌++◌, sym, subst, rules}
use Rattle.log_model.specs.Log.{verdict_of}
use Rattle.log_model.specs.Entries.{items_of}
use Rattle.log_entry.specs.Kind.{entry_of}
use Rattle.replica.specs.Replica.{FitTables, HasDelivered, writes_in}
use Rattle.site.specs.Replica.{SiteReplica, StandsForLog, reply_of, setting_of}
use Rattle.site.specs.Taking.{Follows, additions_after}
use Rattle.site.proofs.DeliveryLemmas.{verdict_is, delivered, fits}
use Rattle.site.proofs.state.SiteReplica.deliver.Goals as goal

pub deliver-requires-clause-fit : goal.deliver-requires-clause-fit
deliver-requires-clause-fit g c =
    let (entries, e, f) = c.requires.follows in
    subst (λ (x : SiteReplica). FitTables x.replica.versions (writes_in (entry_of c.args.entry.now))) (sym c.self.view_is)
    (fits c.args.self.now entries e c.args.entry.now c.tables_take_the_schemas_writes.ensures.fit f)

pub returns-clause-verdict : goal.returns-clause-verdict
returns-clause-verdict g c entries e f =
    subst (λ (x : SiteReplica). (new : _) → HasDelivered x.replica new (entry_of c.args.entry.now) c.in-Ok.verdict → verdict_of (setting_of c.args.self.now).setting (items_of (entries ++ e ∷ [])) (length entries + 1) ≡ Some c.in-Ok.verdict) (sym c.self.view_is)
    (λ new is. verdict_is c.args.self.now entries e c.args.entry.now c.fit_entries_go_on.ensures.one_more c.fit_entries_go_on.ensures.next new c.in-Ok.verdict f is)
    c.deliver.new.self c.in-Ok.ensures.delivered

pub returns-clause-stands : goal.returns-clause-stands
returns-clause-stands g c entries e f =
    let s : SiteReplica = record {
      catalogue = c.self.inside.catalogue;
      table_list = c.self.inside.table_list.items;
      takes_additions = c.self.inside.takes_additions;
      origin = c.self.inside.origin;
      replica = c.self.inside.replica;
      replies = c.self.inside.replies.items;
      additions = c.self.inside.additions.items;
      sessions = c.self.inside.sessions;
    } in
    let inner : Follows s entries e c.args.entry.now = subst (λ (x : SiteReplica). Follows x entries e c.args.entry.now) (sym c.self.view_is) f in
    let stands = delivered s entries e c.args.entry.now c.fit_entries_go_on.ensures.one_more c.fit_entries_go_on.ensures.next c.a_log_only_grows.ensures.procedures c.procedures_are_never_lost.ensures c.procedures_after_each_item.ensures.call
    c.procedures_after_each_item.ensures.addition c.verdicts_on_additions_in_words_of_the_log.ensures.commit c.deliver.new.self c.in-Ok.verdict inner
    c.in-Ok.ensures.delivered c.in-Ok.ensures.same_tables c.in-Ok.ensures.one_more in
    let replies : c.push.new.self.items ≡ c.self.inside.replies.items ++ reply_of (entry_of c.args.entry.now) ∷ [] = search rules in
    let additions : c.keep_addition.new.additions.items ≡ additions_after c.self.inside.additions.items (entry_of c.args.entry.now) c.in-Ok.verdict c.deliver.new.self.position = search rules in
    subst (λ (xs : List (ℕ × ℕ)). StandsForLog (record {
      catalogue = c.self.inside.catalogue;
      table_list = c.self.inside.table_list.items;
      takes_additions = c.self.inside.takes_additions;
      origin = c.self.inside.origin;
      replica = c.deliver.new.self;
      replies = c.push.new.self.items;
      additions = xs;
      sessions = c.self.inside.sessions;
    }) (entries ++ e ∷ [])) (sym additions)
    (subst (λ (xs : List ℕ). StandsForLog (record {
      catalogue = c.self.inside.catalogue;
      table_list = c.self.inside.table_list.items;
      takes_additions = c.self.inside.takes_additions;
      origin = c.self.inside.origin;
      replica = c.deliver.new.self;
      replies = xs;
      additions = additions_after c.self.inside.additions.items (entry_of c.args.entry.now) c.in-Ok.verdict c.deliver.new.self.position;
      sessions = c.self.inside.sessions;
    }) (entries ++ e ∷ [])) (sym replies) stands)
