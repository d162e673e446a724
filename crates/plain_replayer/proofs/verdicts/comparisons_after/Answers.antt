use Rattle.std.proofs.Common.{◌∙◌, ap, map, Option}
use Rattle.std.proofs.lemmas.Result.{IfOk-weaker}
use Rattle.log_model.specs.declared.request.RequestId.{RequestId}
use Rattle.log_model.specs.Log.{repeats, first_position}
use Rattle.plain_replayer.specs.Replay.{certified_of}
use Rattle.plain_replayer.proofs.CertifyLemmas.{comparisons_by_first}
use Rattle.plain_replayer.proofs.verdicts.comparisons_after.Goals as goal

pub returns-in-Some : goal.returns-in-Some
returns-in-Some g c = c.new.ensures.items
    ∙ comparisons_by_first c.args.window (map certified_of c.args.past.now) c.args.call.now c.args.looks.now _
    (c.in-Some.ensures ∙ ap (λ (r : Option RequestId). first_position (repeats r) 1 (map certified_of c.args.past.now)) c.request.ensures)

pub returns-in-None : goal.returns-in-None
returns-in-None g c = IfOk-weaker c.comparisons_on_new.result _ _
    (λ list is.
    is ∙ comparisons_by_first c.args.window (map certified_of c.args.past.now) c.args.call.now c.args.looks.now _
    (c.in-None.ensures ∙ ap (λ (r : Option RequestId). first_position (repeats r) 1 (map certified_of c.args.past.now)) c.request.ensures))
    c.comparisons_on_new.ensures
