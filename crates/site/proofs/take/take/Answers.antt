use Rattle.std.proofs.Common.{◌≡◌, List, [], ◌∷◌, ◌++◌, subst}
use Rattle.log_model.specs.Entries.{Entry, items_of}
use Rattle.site_model.specs.Standing.{standing}
use Rattle.site_model.specs.declared.outcome.EntryOutcome.TheVariants as outcome
use Rattle.site_model.specs.Order.{next_entry, outcome_behind, with_bytes}
use Rattle.site.specs.Replica.{StandsForLog, setting_of}
use Rattle.site.specs.Standing.{IsStanding, IsReady}
use Rattle.site.specs.Taking.{Follows}
use Rattle.site.proofs.TakeLemmas.{TakesFor, true_follows, true_outcome, decided_follows, decided_outcome, opening_follows, nothing_follows, if_ok, on_ok}
use Rattle.site.proofs.take.take.Goals as goal

pub take_entry-requires-clause-follows : goal.take_entry-requires-clause-follows
take_entry-requires-clause-follows g c =
    let (entries, stands) = c.requires.stands in
    (entries, next_entry (setting_of c.args.replica.now) c.args.replica.now.sessions entries c.args.bytes.now, true_follows c.what_stands_is_of_the_log.ensures.placed c.what_stands_is_of_the_log.ensures.carried c.what_stands_is_of_the_log.ensures.fits c.args.replica.now entries c.args.bytes.now c.are_bytes.ensures stands c.in-StandsAs.entry (subst (IsStanding (standing (setting_of c.args.replica.now) c.args.replica.now.sessions (items_of entries) c.args.bytes.now)) c.in-StandsAs.is (c.in_ok-entry.ensures.is entries stands)) (subst (IsReady c.args.replica.now.catalogue.tables) c.in-StandsAs.is c.in_ok-entry.ensures.ready))

pub take_entry-requires-in-Decided-clause-follows : goal.take_entry-requires-in-Decided-clause-follows
take_entry-requires-in-Decided-clause-follows g c =
    let (entries, stands) = c.requires.stands in
    (entries, next_entry (setting_of c.args.replica.now) c.args.replica.now.sessions entries c.args.bytes.now, decided_follows c.what_stands_is_of_the_log.ensures.placed c.what_stands_is_of_the_log.ensures.carried c.what_stands_is_of_the_log.ensures.fits c.args.replica.now entries c.args.bytes.now c.are_bytes.ensures stands c.entry_of_none-entry.result c.in-Decided.snapshot c.in-Decided.request (subst (IsStanding (standing (setting_of c.args.replica.now) c.args.replica.now.sessions (items_of entries) c.args.bytes.now)) c.in-Decided.is (c.in_ok-entry.ensures.is entries stands)) c.entry_of_none-entry.ensures)

pub take_entry-requires-in-Opens-clause-follows : goal.take_entry-requires-in-Opens-clause-follows
take_entry-requires-in-Opens-clause-follows g c =
    let (entries, stands) = c.requires.stands in
    (entries, next_entry (setting_of c.args.replica.now) c.args.replica.now.sessions entries c.args.bytes.now, opening_follows c.what_stands_is_of_the_log.ensures.placed c.what_stands_is_of_the_log.ensures.carried c.what_stands_is_of_the_log.ensures.fits c.args.replica.now entries c.args.bytes.now c.are_bytes.ensures stands c.entry_of_none-opening.result c.in-Opens.session c.position.result (subst (IsStanding (standing (setting_of c.args.replica.now) c.args.replica.now.sessions (items_of entries) c.args.bytes.now)) c.in-Opens.is (c.in_ok-entry.ensures.is entries stands)) c.position.ensures.position c.entry_of_none-opening.ensures)

pub take_entry-requires-in-Nothing-clause-follows : goal.take_entry-requires-in-Nothing-clause-follows
take_entry-requires-in-Nothing-clause-follows g c =
    let (entries, stands) = c.requires.stands in
    (entries, next_entry (setting_of c.args.replica.now) c.args.replica.now.sessions entries c.args.bytes.now, nothing_follows c.what_stands_is_of_the_log.ensures.placed c.what_stands_is_of_the_log.ensures.carried c.what_stands_is_of_the_log.ensures.fits c.args.replica.now entries c.args.bytes.now c.are_bytes.ensures stands c.entry_of_none-entry-in-Nothing.result c.in-Nothing.cause c.position-in-Nothing.result (subst (IsStanding (standing (setting_of c.args.replica.now) c.args.replica.now.sessions (items_of entries) c.args.bytes.now)) c.in-Nothing.is (c.in_ok-entry.ensures.is entries stands)) c.position-in-Nothing.ensures.position c.entry_of_none-entry-in-Nothing.ensures)

pub returns-in-StandsAs-clause-outcome : goal.returns-in-StandsAs-clause-outcome
returns-in-StandsAs-clause-outcome g c =
    if_ok (TakesFor c.args.replica.now c.in-StandsAs.entry c.committed_outcome-committed.result) (λ o. (entries : List Entry) → StandsForLog c.args.replica.now entries → o ≡ outcome_behind (setting_of c.args.replica.now) c.args.replica.now.sessions entries c.args.bytes.now)
    c.take_entry.result c.take_entry.ensures.outcome
    (λ o takes entries stands. true_outcome c.what_stands_is_of_the_log.ensures.placed c.what_stands_is_of_the_log.ensures.carried c.what_stands_is_of_the_log.ensures.fits c.args.replica.now entries c.args.bytes.now c.are_bytes.ensures stands c.in-StandsAs.entry c.committed_outcome-committed.result o (subst (IsStanding (standing (setting_of c.args.replica.now) c.args.replica.now.sessions (items_of entries) c.args.bytes.now)) c.in-StandsAs.is (c.in_ok-entry.ensures.is entries stands)) (subst (IsReady c.args.replica.now.catalogue.tables) c.in-StandsAs.is c.in_ok-entry.ensures.ready) c.committed_outcome-committed.ensures takes)

pub returns-in-Decided-clause-outcome : goal.returns-in-Decided-clause-outcome
returns-in-Decided-clause-outcome g c =
    if_ok (TakesFor c.args.replica.now c.entry_of_none-entry.result outcome.Stale) (λ o. (entries : List Entry) → StandsForLog c.args.replica.now entries → o ≡ outcome_behind (setting_of c.args.replica.now) c.args.replica.now.sessions entries c.args.bytes.now)
    c.take_entry-in-Decided.result c.take_entry-in-Decided.ensures.outcome
    (λ o takes entries stands. decided_outcome c.what_stands_is_of_the_log.ensures.placed c.what_stands_is_of_the_log.ensures.carried c.what_stands_is_of_the_log.ensures.fits c.args.replica.now entries c.args.bytes.now c.are_bytes.ensures stands c.entry_of_none-entry.result c.in-Decided.snapshot c.in-Decided.request o (subst (IsStanding (standing (setting_of c.args.replica.now) c.args.replica.now.sessions (items_of entries) c.args.bytes.now)) c.in-Decided.is (c.in_ok-entry.ensures.is entries stands)) c.entry_of_none-entry.ensures takes)

pub returns-in-StandsAs-clause-stands : goal.returns-in-StandsAs-clause-stands
returns-in-StandsAs-clause-stands g c =
    on_ok ((entries : List Entry) (e : Entry) → Follows c.args.replica.now entries e c.in-StandsAs.entry → StandsForLog c.take_entry.new.replica (entries ++ e ∷ []))
    ((entries : List Entry) → StandsForLog c.args.replica.now entries → StandsForLog c.take_entry.new.replica (with_bytes (setting_of c.args.replica.now) c.args.replica.now.sessions entries c.args.bytes.now))
    c.take_entry.result c.take_entry.ensures.stands (λ taken entries stands. taken entries (next_entry (setting_of c.args.replica.now) c.args.replica.now.sessions entries c.args.bytes.now) (true_follows c.what_stands_is_of_the_log.ensures.placed c.what_stands_is_of_the_log.ensures.carried c.what_stands_is_of_the_log.ensures.fits c.args.replica.now entries c.args.bytes.now c.are_bytes.ensures stands c.in-StandsAs.entry (subst (IsStanding (standing (setting_of c.args.replica.now) c.args.replica.now.sessions (items_of entries) c.args.bytes.now)) c.in-StandsAs.is (c.in_ok-entry.ensures.is entries stands)) (subst (IsReady c.args.replica.now.catalogue.tables) c.in-StandsAs.is c.in_ok-entry.ensures.ready)))

pub returns-in-Decided-clause-stands : goal.returns-in-Decided-clause-stands
returns-in-Decided-clause-stands g c =
    on_ok ((entries : List Entry) (e : Entry) → Follows c.args.replica.now entries e c.entry_of_none-entry.result → StandsForLog c.take_entry-in-Decided.new.replica (entries ++ e ∷ []))
    ((entries : List Entry) → StandsForLog c.args.replica.now entries → StandsForLog c.take_entry-in-Decided.new.replica (with_bytes (setting_of c.args.replica.now) c.args.replica.now.sessions entries c.args.bytes.now))
    c.take_entry-in-Decided.result c.take_entry-in-Decided.ensures.stands (λ taken entries stands. taken entries (next_entry (setting_of c.args.replica.now) c.args.replica.now.sessions entries c.args.bytes.now) (decided_follows c.what_stands_is_of_the_log.ensures.placed c.what_stands_is_of_the_log.ensures.carried c.what_stands_is_of_the_log.ensures.fits c.args.replica.now entries c.args.bytes.now c.are_bytes.ensures stands c.entry_of_none-entry.result c.in-Decided.snapshot c.in-Decided.request (subst (IsStanding (standing (setting_of c.args.replica.now) c.args.replica.now.sessions (items_of entries) c.args.bytes.now)) c.in-Decided.is (c.in_ok-entry.ensures.is entries stands)) c.entry_of_none-entry.ensures))

pub returns-in_ok-take_entry-in-Nothing-clause-stands : goal.returns-in_ok-take_entry-in-Nothing-clause-stands
returns-in_ok-take_entry-in-Nothing-clause-stands g c entries stands =
    c.in_ok-take_entry-in-Nothing.ensures.stands entries (next_entry (setting_of c.args.replica.now) c.args.replica.now.sessions entries c.args.bytes.now) (nothing_follows c.what_stands_is_of_the_log.ensures.placed c.what_stands_is_of_the_log.ensures.carried c.what_stands_is_of_the_log.ensures.fits c.args.replica.now entries c.args.bytes.now c.are_bytes.ensures stands c.entry_of_none-entry-in-Nothing.result c.in-Nothing.cause c.position-in-Nothing.result (subst (IsStanding (standing (setting_of c.args.replica.now) c.args.replica.now.sessions (items_of entries) c.args.bytes.now)) c.in-Nothing.is (c.in_ok-entry.ensures.is entries stands)) c.position-in-Nothing.ensures.position c.entry_of_none-entry-in-Nothing.ensures)

pub returns-in_ok-take_entry-in-Opens-clause-stands : goal.returns-in_ok-take_entry-in-Opens-clause-stands
returns-in_ok-take_entry-in-Opens-clause-stands g c entries stands =
    c.in_ok-take_entry-in-Opens.ensures.stands entries (next_entry (setting_of c.args.replica.now) c.args.replica.now.sessions entries c.args.bytes.now) (opening_follows c.what_stands_is_of_the_log.ensures.placed c.what_stands_is_of_the_log.ensures.carried c.what_stands_is_of_the_log.ensures.fits c.args.replica.now entries c.args.bytes.now c.are_bytes.ensures stands c.entry_of_none-opening.result c.in-Opens.session c.position.result (subst (IsStanding (standing (setting_of c.args.replica.now) c.args.replica.now.sessions (items_of entries) c.args.bytes.now)) c.in-Opens.is (c.in_ok-entry.ensures.is entries stands)) c.position.ensures.position c.entry_of_none-opening.ensures)
