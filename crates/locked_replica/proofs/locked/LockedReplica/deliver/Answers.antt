use Rattle.std.proofs.Common.{◌≡◌, ◌++◌, ◌∷◌, [], List, ◌∙◌, sym, ap, subst}
use Rattle.log_entry.specs.declared.entry.Entry.{Entry as LogEntry}
use Rattle.log_entry.specs.Kind.{entry_of}
use Rattle.order_log.specs.Facts.{HasFactAfter}
use Rattle.replica.specs.Replica.{entries_of, writes_in}
use Rattle.locked_replica.specs.Ordered.{IsOrdered}
use Rattle.locked_replica.specs.Locked.{LockedState}
use Rattle.locked_replica.proofs.LockedLemmas.{keeps_more, verdict_more}
use Rattle.locked_replica.proofs.locked.LockedReplica.deliver.Goals as goal

pub deliver-requires-clause-fit : goal.deliver-requires-clause-fit
deliver-requires-clause-fit g c =
    let w = g.J.LogSetting.setting in
    let me = c.self.inside in
    let e = c.in-Some.entry.now in
    let fact : HasFactAfter (IsOrdered w) me.seen e = subst (λ (xs : List (LogEntry g.row.P.Denot)). HasFactAfter (IsOrdered w) xs e) c.again-seen.ensures c.in-Some.ensures.fact in
    c.tables_take_the_schemas_writes.ensures.fit w.tables me.replica.versions (writes_in (entry_of e)) c.self.invariant.follows.stands.tables (c.entries_with_facts_are_a_logs.ensures.writes w me.seen e fact)

pub invariant_of-self : goal.invariant_of-self
invariant_of-self g c =
    let w = g.J.LogSetting.setting in
    let me = c.self.inside in
    let e = c.in-Some.entry.now in
    let fact : HasFactAfter (IsOrdered w) me.seen e = subst (λ (xs : List (LogEntry g.row.P.Denot)). HasFactAfter (IsOrdered w) xs e) c.again-seen.ensures c.in-Some.ensures.fact in
    let now : c.get.new.seen ≡ me.seen ++ e ∷ [] = c.in-Some.ensures.entry ∙ ap (λ (xs : List (LogEntry g.row.P.Denot)). xs ++ e ∷ []) c.again-seen.ensures in
    keeps_more c.entries_with_facts_are_a_logs.ensures.of_log w me.replica c.deliver.new.self me.seen c.get.new.seen e c.self.invariant now fact
    (c.in-Ok.ensures.one_more w (entries_of me.seen) c.self.invariant.follows.stands (c.entries_with_facts_are_a_logs.ensures.for_tables w me.seen e fact))

pub returns-in-Ok : goal.returns-in-Ok
returns-in-Ok g c =
    let w = g.J.LogSetting.setting in
    let me = c.self.inside in
    let e = c.in-Some.entry.now in
    let fact : HasFactAfter (IsOrdered w) me.seen e = subst (λ (xs : List (LogEntry g.row.P.Denot)). HasFactAfter (IsOrdered w) xs e) c.again-seen.ensures c.in-Some.ensures.fact in
    let now : c.get.new.seen ≡ me.seen ++ e ∷ [] = c.in-Some.ensures.entry ∙ ap (λ (xs : List (LogEntry g.row.P.Denot)). xs ++ e ∷ []) c.again-seen.ensures in (
      ap (λ (l : LockedState g.row.P.Denot). l.replica.stopped) (sym c.self.view_is) ∙ sym c.stopped.ensures ∙ c.if-stopped.false,
      (e, now ∙ ap (λ (l : LockedState g.row.P.Denot). l.entries ++ e ∷ []) c.self.view_is),
      c.in-Ok.ensures.delivered.running,
      verdict_more c.entries_with_facts_are_a_logs.ensures.of_log w me.replica c.deliver.new.self me.seen c.get.new.seen e c.in-Ok.verdict c.self.invariant now fact c.in-Ok.ensures.delivered.log_verdict c.in-Ok.ensures.delivered.position,
    )
