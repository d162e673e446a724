use Rattle.std.proofs.Common.{◌≤◌, length, ap, subst, arith}
use Rattle.schema.specs.Rows.{Rows}
use Rattle.rows_mv.specs.Versions.{AnswersFrom}
use Rattle.replica.specs.Replica.{entries_of}
use Rattle.locked_replica.specs.Locked.{LockedState}
use Rattle.locked_replica.proofs.LockedLemmas.{rows_seen}
use Rattle.locked_replica.proofs.locked.LockedReplica.at.Goals as goal

pub returns-clause-answers : goal.returns-clause-answers
returns-clause-answers g c = λ here.
    let w = g.J.LogSetting.setting in
    let me = c.self.inside in
    let seen = c.args.seen.now in
    let v = ap (λ (l : LockedState g.row.P.Denot). length l.entries) c.self.view_is in
    let held : length seen ≤ length me.seen = omega (arith, v, c.requires) in
    let same = rows_seen c.beginnings_say_the_same.ensures.rows c.entries_suffice.ensures.rows w me.replica me.seen seen c.len.result c.self.invariant (c.agrees.ensures held) c.len.ensures.len held in
    subst (λ (rows : Rows). AnswersFrom c.at.result.versions.now.tables c.at.result.position rows) same
    (c.at.ensures.answers w.beginning (entries_of me.seen) c.self.invariant.follows.stands.delivered here)
