use Rattle.std.proofs.Common.{◌≡◌, ◌+◌, ◌<◌, ◌^◌, List, [], ◌∷◌, ◌++◌, sym, ap, subst, ◌∙◌, arith}
use Rattle.log_model.specs.Entries.{Entry}
use Rattle.site_model.specs.Sessions.{Sessions}
use Rattle.site_model.specs.Order.{Order, next_outcome, order_entries, sessions_after}
use Rattle.site.specs.Replica.{SiteReplica, StandsForOrder, setting_of}
use Rattle.site.proofs.TakeLemmas.{order_taken, outcome_is_next}
use Rattle.site.proofs.site.Site.take.Given as given
use Rattle.site.proofs.site.Site.take.Goals as goal

abbrev taken_behind : (g : given.Over) → goal.In_ok-note g → Order → List Entry
taken_behind g c order = order_entries (setting_of c.self.inside.replica) order

taken : (g : given.Over) → (c : goal.In_ok-note g) → (order : Order) → StandsForOrder c.self.inside.replica order → StandsForOrder c.note.new.self (order ++ c.args.bytes.now ∷ [])
taken g c order stands =
    let entries = taken_behind g c order in
    order_taken c.self.inside.replica c.take.new.replica c.note.new.self order c.args.bytes.now c.in_ok-outcome.outcome c.orders_grow.ensures.next c.sessions_go_on.ensures.next c.in_ok-outcome.ensures.setting
    (c.in_ok-outcome.ensures.stands entries stands.log) c.in_ok-outcome.ensures.sessions (c.in_ok-outcome.ensures.outcome entries stands.log) c.in_ok-note.ensures stands

pub invariant_of-result : goal.invariant_of-result
invariant_of-result g c = let (order, stands) = c.self.invariant in (order ++ c.args.bytes.now ∷ [], taken g c order stands)

pub note-requires : goal.note-requires
note-requires g c =
    let (order, stands) = c.self.invariant in
    let r = c.self.inside.replica in
    let room : r.replica.position + 1 < 2 ^ 32 = subst (λ (x : SiteReplica). x.replica.position + 1 < 2 ^ 32) (sym c.self.view_is) c.requires.room in
    let known : c.take.new.replica.sessions.opened ≡ (sessions_after (setting_of r) order).opened = ap (λ (k : Sessions). k.opened) (c.in_ok-outcome.ensures.sessions ∙ stands.sessions) in
    let few = c.sessions_go_on.ensures.count (setting_of r) order in
    let long = c.orders_grow.ensures.count (setting_of r) order in
    let here = stands.log.stands.delivered.position in
    omega (arith, room, known, few, long, here)

pub returns-clause-outcome : goal.returns-clause-outcome
returns-clause-outcome g c =
    subst (λ (r : SiteReplica). (order : _) → StandsForOrder r order → c.in_ok-outcome.outcome ≡ next_outcome (setting_of r) order c.args.bytes.now) c.self.view_is
    (λ order stands. outcome_is_next c.self.inside.replica order c.args.bytes.now c.in_ok-outcome.outcome stands (c.in_ok-outcome.ensures.outcome (taken_behind g c order) stands.log))

pub returns-clause-stands : goal.returns-clause-stands
returns-clause-stands g c =
    subst (λ (r : SiteReplica). (order : _) → StandsForOrder r order → StandsForOrder c.note.new.self (order ++ c.args.bytes.now ∷ [])) c.self.view_is (taken g c)
