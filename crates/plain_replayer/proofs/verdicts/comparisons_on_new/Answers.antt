use Rattle.std.proofs.Common.{◌∙◌, ◌+◌, sym, ap, map}
use Rattle.std.proofs.lemmas.Result.{IfOk-weaker}
use Rattle.certify.specs.Comparisons.{comparisons_from}
use Rattle.plain_replayer.specs.Replay.{certified_of}
use Rattle.plain_replayer.proofs.CertifyLemmas.{stale_comparisons, recent_comparisons}
use Rattle.plain_replayer.proofs.verdicts.comparisons_on_new.Goals as goal

pub returns-then-is_recent : goal.returns-then-is_recent
returns-then-is_recent g c = IfOk-weaker c.comparisons_from.result _ _
    (λ list is.
    is ∙ ap (comparisons_from c.args.looks.now (c.snapshot-snapshot.result + 1)) c.since.ensures.certified
    ∙ recent_comparisons c.args.window (map certified_of c.args.past.now) c.args.call.now c.args.looks.now c.snapshot-snapshot.result c.snapshot-snapshot.ensures.snapshot (sym c.is_recent.ensures ∙ c.if-is_recent.true))
    c.comparisons_from.ensures

pub returns-else-is_recent : goal.returns-else-is_recent
returns-else-is_recent g c = c.new.ensures.items
    ∙ stale_comparisons c.args.window (map certified_of c.args.past.now) c.args.call.now c.args.looks.now c.snapshot-snapshot.result c.snapshot-snapshot.ensures.snapshot (sym c.is_recent.ensures ∙ c.if-is_recent.false)
