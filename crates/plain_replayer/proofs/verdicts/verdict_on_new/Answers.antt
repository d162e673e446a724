use Rattle.std.proofs.Common.{◌∙◌, ◌+◌, sym, ap, map}
use Rattle.log_model.specs.Log.{conflicts, first_position, unless_conflict}
use Rattle.plain_replayer.specs.Replay.{certified_of}
use Rattle.plain_replayer.proofs.CertifyLemmas.{stale_verdict, recent_verdict}
use Rattle.plain_replayer.proofs.verdicts.verdict_on_new.Goals as goal

pub returns-then-is_recent : goal.returns-then-is_recent
returns-then-is_recent g c =
    c.unless_conflict.ensures
    ∙ ap unless_conflict (c.first_conflict.ensures ∙ ap (first_position (conflicts c.args.looks.now) (c.snapshot-snapshot.result + 1)) c.since.ensures.certified)
    ∙ recent_verdict c.args.window (map certified_of c.args.past.now) c.args.call.now c.args.looks.now c.snapshot-snapshot.result c.snapshot-snapshot.ensures.snapshot (sym c.is_recent.ensures ∙ c.if-is_recent.true)

pub returns-else-is_recent : goal.returns-else-is_recent
returns-else-is_recent g c = stale_verdict c.args.window (map certified_of c.args.past.now) c.args.call.now c.args.looks.now c.snapshot-snapshot.result c.snapshot-snapshot.ensures.snapshot (sym c.is_recent.ensures ∙ c.if-is_recent.false)
