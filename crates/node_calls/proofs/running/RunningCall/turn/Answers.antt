use Rattle.std.proofs.Common.{◌≡◌, ◌-◌, nat_lt, false, Bool, List, length, ap, subst, ◌∙◌}
use Rattle.schema.specs.Rows.{Rows}
use Rattle.rows_mv.specs.Versions.{AnswersFrom}
use Rattle.log_entry.specs.declared.entry.Entry.{Entry as LogEntry}
use Rattle.world_calls.specs.OpenCall.{IsTurn, open_call_of, stays_open}
use Rattle.node_calls.specs.Running.{RunningState, log_seen}
use Rattle.node_calls.proofs.RunLemmas.{can_go_on, goes_on}
use Rattle.node_calls.proofs.running.RunningCall.turn.Goals as goal

pub turn-requires : goal.turn-requires
turn-requires g c =
    let me = c.self.inside in (
      g.J.LogSetting.setting,
      log_seen me.begun.entries,
      can_go_on g.J.LogSetting.setting (λ rows. c.at.result.gone ≡ false → AnswersFrom c.at.result.versions.now.tables c.at.result.position rows) me.begun me.call c.accepted.result.now c.seen.result.now
          c.is_of_the_log.ensures (c.self.invariant (ap (λ (r : RunningState g.row.A.Denot). stays_open r.last) c.self.view_is ∙ ap stays_open c.requires.going)) c.accepted.ensures c.seen.ensures c.at.ensures.answers,
    )

pub invariant_of-self : goal.invariant_of-self
invariant_of-self g c = λ stays.
    let me = c.self.inside in
    let u = c.self.invariant (ap (λ (r : RunningState g.row.A.Denot). stays_open r.last) c.self.view_is ∙ ap stays_open c.requires.going) in
    let answers = λ (rows : Rows). c.at.result.gone ≡ false → AnswersFrom c.at.result.versions.now.tables c.at.result.position rows in
    let can = can_go_on g.J.LogSetting.setting answers me.begun me.call c.accepted.result.now c.seen.result.now c.is_of_the_log.ensures u c.accepted.ensures c.seen.ensures c.at.ensures.answers in
    goes_on g.J.LogSetting.setting c.at.result.gone answers me.begun c.accepted.result.now me.call c.turn.new.self c.turn.result u (c.turn.ensures.turn g.J.LogSetting.setting (log_seen me.begun.entries) can) c.turn.ensures.last
    (c.turn.ensures.goes_on g.J.LogSetting.setting (log_seen me.begun.entries) can) stays

pub returns-clause-turn : goal.returns-clause-turn
returns-clause-turn g c =
    let me = c.self.inside in
    let u = c.self.invariant (ap (λ (r : RunningState g.row.A.Denot). stays_open r.last) c.self.view_is ∙ ap stays_open c.requires.going) in
    let answers = λ (rows : Rows). c.at.result.gone ≡ false → AnswersFrom c.at.result.versions.now.tables c.at.result.position rows in
    let can = can_go_on g.J.LogSetting.setting answers me.begun me.call c.accepted.result.now c.seen.result.now c.is_of_the_log.ensures u c.accepted.ensures c.seen.ensures c.at.ensures.answers in
    let there = length c.args.replica.now.entries in
    let gone = c.at.ensures.gone ∙ ap (λ (xs : List (LogEntry g.row.A.Denot)). nat_lt g.J.LogSetting.setting.window (there - length xs)) c.seen.ensures in
    let turned = subst (λ (b : Bool). IsTurn g.J.LogSetting.setting (log_seen me.begun.entries) b (open_call_of me.call) c.turn.result (open_call_of c.turn.new.self)) gone (c.turn.ensures.turn g.J.LogSetting.setting (log_seen me.begun.entries) can) in
    subst (λ (r : RunningState g.row.A.Denot). IsTurn g.J.LogSetting.setting (log_seen r.entries) (nat_lt g.J.LogSetting.setting.window (there - length r.entries)) r.progress c.turn.result (open_call_of c.turn.new.self)) c.self.view_is turned
