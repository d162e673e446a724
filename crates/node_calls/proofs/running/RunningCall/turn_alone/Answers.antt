use Rattle.std.proofs.Common.{true, refl, ap, subst, ◌∙◌}
use Rattle.world_calls.specs.OpenCall.{IsTurn, open_call_of, stays_open}
use Rattle.node_calls.specs.Running.{RunningState, log_seen, calls_row_helper_next}
use Rattle.node_calls.proofs.RunLemmas.{can_go_on, goes_on, stays_alone}
use Rattle.node_calls.proofs.running.RunningCall.turn_alone.Goals as goal

pub turn-requires : goal.turn-requires
turn-requires g c =
    let me = c.self.inside in (
      g.J.LogSetting.setting,
      log_seen me.begun.entries,
      can_go_on g.J.LogSetting.setting (λ rows. Unit {0}) me.begun me.call c.accepted.result.now me.begun.entries c.is_of_the_log.ensures (c.self.invariant (ap (λ (r : RunningState g.row.A.Denot). stays_open r.last) c.self.view_is ∙ ap stays_open c.requires.going)) c.accepted.ensures refl tt,
    )

pub invariant_of-self : goal.invariant_of-self
invariant_of-self g c = λ stays.
    let me = c.self.inside in
    let u = c.self.invariant (ap (λ (r : RunningState g.row.A.Denot). stays_open r.last) c.self.view_is ∙ ap stays_open c.requires.going) in
    let can = can_go_on g.J.LogSetting.setting (λ rows. Unit {0}) me.begun me.call c.accepted.result.now me.begun.entries c.is_of_the_log.ensures u c.accepted.ensures refl tt in
    goes_on g.J.LogSetting.setting true (λ rows. Unit {0}) me.begun c.accepted.result.now me.call c.turn.new.self c.turn.result u (c.turn.ensures.turn g.J.LogSetting.setting (log_seen me.begun.entries) can) c.turn.ensures.last
    (c.turn.ensures.goes_on g.J.LogSetting.setting (log_seen me.begun.entries) can) stays

pub returns-clause-turn : goal.returns-clause-turn
returns-clause-turn g c =
    let me = c.self.inside in
    let u = c.self.invariant (ap (λ (r : RunningState g.row.A.Denot). stays_open r.last) c.self.view_is ∙ ap stays_open c.requires.going) in
    let can = can_go_on g.J.LogSetting.setting (λ rows. Unit {0}) me.begun me.call c.accepted.result.now me.begun.entries c.is_of_the_log.ensures u c.accepted.ensures refl tt in
    subst (λ (r : RunningState g.row.A.Denot). IsTurn g.J.LogSetting.setting (log_seen r.entries) true r.progress c.turn.result (open_call_of c.turn.new.self)) c.self.view_is
    (c.turn.ensures.turn g.J.LogSetting.setting (log_seen me.begun.entries) can)

pub returns-clause-stays : goal.returns-clause-stays
returns-clause-stays g c =
    let me = c.self.inside in
    let u = c.self.invariant (ap (λ (r : RunningState g.row.A.Denot). stays_open r.last) c.self.view_is ∙ ap stays_open c.requires.going) in
    let can = can_go_on g.J.LogSetting.setting (λ rows. Unit {0}) me.begun me.call c.accepted.result.now me.begun.entries c.is_of_the_log.ensures u c.accepted.ensures refl tt in
    stays_alone c.a_step_leads_on.ensures.call c.a_step_leads_on.ensures.others c.writes_and_cancels_look_at_nothing.ensures.cancel
    c.accepted_programs_never_go_wrong.ensures.never_stuck c.accepted_programs_never_go_wrong.ensures.run g.J.LogSetting.setting me.begun me.call c.turn.result (open_call_of c.turn.new.self) u (ap (λ (r : RunningState g.row.A.Denot). r.last) c.self.view_is ∙ c.requires.going)
    (ap (λ (r : RunningState g.row.A.Denot). calls_row_helper_next g.J.LogSetting.setting r) c.self.view_is ∙ c.requires.alone) (c.turn.ensures.turn g.J.LogSetting.setting (log_seen me.begun.entries) can)
