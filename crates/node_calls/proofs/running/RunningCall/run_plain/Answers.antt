use Rattle.std.proofs.Common.{◌≡◌, Bool, ℕ, refl, ap, subst, ◌∙◌}
use Rattle.world_calls.specs.OpenCall.{AreMoreTurns, further, open_call_of, stays_open}
use Rattle.node_calls.specs.Running.{RunningState, log_seen}
use Rattle.node_calls.proofs.RunLemmas.{can_go_on, plain_goes_on}
use Rattle.node_calls.proofs.running.RunningCall.run_plain.Goals as goal

pub run_plain-requires-clause-can : goal.run_plain-requires-clause-can
run_plain-requires-clause-can g c =
    let me = c.self.inside in
    (g.J.LogSetting.setting, log_seen me.begun.entries, can_go_on g.J.LogSetting.setting (λ rows. Unit {0}) me.begun me.call c.accepted.result.now me.begun.entries c.is_of_the_log.ensures (c.self.invariant (ap (λ (r : RunningState g.row.A.Denot). stays_open r.last) c.self.view_is ∙ ap stays_open c.requires)) c.accepted.ensures refl tt)

pub invariant_of-self : goal.invariant_of-self
invariant_of-self g c = λ stays.
    let me = c.self.inside in
    let u = c.self.invariant (ap (λ (r : RunningState g.row.A.Denot). stays_open r.last) c.self.view_is ∙ ap stays_open c.requires) in
    let can = can_go_on g.J.LogSetting.setting (λ rows. Unit {0}) me.begun me.call c.accepted.result.now me.begun.entries c.is_of_the_log.ensures u c.accepted.ensures refl tt in
    let turns = c.run_plain.ensures.turns g.J.LogSetting.setting (log_seen me.begun.entries) can in
    plain_goes_on g.J.LogSetting.setting me.begun me.call c.run_plain.new.self turns.0 u turns.2 (c.run_plain.ensures.goes_on g.J.LogSetting.setting (log_seen me.begun.entries) can).follows

pub returns-clause-turns : goal.returns-clause-turns
returns-clause-turns g c =
    let me = c.self.inside in
    let can = can_go_on g.J.LogSetting.setting (λ rows. Unit {0}) me.begun me.call c.accepted.result.now me.begun.entries c.is_of_the_log.ensures (c.self.invariant (ap (λ (r : RunningState g.row.A.Denot). stays_open r.last) c.self.view_is ∙ ap stays_open c.requires)) c.accepted.ensures refl tt in
    subst (λ (r : RunningState g.row.A.Denot). (count : ℕ) × ((gone : Bool) → AreMoreTurns g.J.LogSetting.setting (log_seen r.entries) gone count r.progress) × (open_call_of c.run_plain.new.self ≡ further count r.progress)) c.self.view_is
    (c.run_plain.ensures.turns g.J.LogSetting.setting (log_seen me.begun.entries) can)
