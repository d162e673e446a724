use Rattle.std.proofs.Common.{◌≤◌, length, ap, arith}
use Rattle.locked_replica.specs.Locked.{LockedState}
use Rattle.locked_replica.proofs.LockedLemmas.{found, of_log_first}
use Rattle.locked_replica.proofs.locked.LockedReplica.find.Goals as goal

pub returns-then-len : goal.returns-then-len
returns-then-len g c =
    let me = c.self.inside in
    let a = c.len.ensures.len in
    let b = c.len-2.ensures.len in
    let v = ap (λ (l : LockedState g.row.P.Denot). length l.entries) c.self.view_is in
    let held : length c.args.seen.now ≤ length me.seen = omega arith in (
      omega (arith, v, held),
      of_log_first g.J.LogSetting.setting me.replica me.seen c.args.seen.now c.self.invariant (c.agrees.ensures held),
      found c.beginnings_say_the_same.ensures.verdicts g.J.LogSetting.setting me.replica me.seen c.args.seen.now c.len-then-len.result c.verdict_at.result.verdict c.self.invariant (c.agrees.ensures held) c.len-then-len.ensures.len c.requires c.verdict_at.ensures.log_verdict,
    )
