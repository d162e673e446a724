use Rattle.std.proofs.Common.{◌∙◌, ◌≤◌, length, arith}
use Rattle.log_model.specs.Entries.{items_of}
use Rattle.replica.specs.Replica.{entries_of}
use Rattle.replica.proofs.EntryLemmas.{items_count}
use Rattle.locked_replica.proofs.EntryLemmas.{entries_count}
use Rattle.locked_replica.proofs.CommitLemmas.{counted, all_counted}
use Rattle.locked_replica.proofs.locked.LockedReplica.commits.Goals as goal

pub loop-before-preserved : goal.loop-before-preserved
loop-before-preserved g c =
    let was = c.loop-before.invariant in
    let few = c.commits_of_one-commits.ensures.few in (
      omega (arith, was.0),
      counted g.J.LogSetting.setting (items_of (entries_of c.args.self.now.entries)) c.loop-before.before c.loop-before.commits c.commits_of_one-commits.result c.verdict_at.result was.1 c.verdict_at.ensures c.commits_of_one-commits.ensures.one,
    )

pub returns : goal.returns
returns g c =
    let w = g.J.LogSetting.setting in
    let entries = c.args.self.now.entries in
    let log = items_of (entries_of entries) in
    let all = c.position-before-end.ensures.position in
    let count = items_count (entries_of entries) ∙ entries_count entries in
    let at : length log ≤ c.loop-before.before = omega (arith, c.loop-before-test.false) in
    all_counted w log c.loop-before.before c.loop-before.commits c.loop-before.invariant.1 (c.each_call_has_a_verdict.ensures.beyond w log c.loop-before.before at)
