use Rattle.std.proofs.Common.{length}
use Rattle.script.specs.Text.{lines_of}
use Rattle.site_service.specs.Settings.{settings_say}
use Rattle.site_service.specs.Leaving.{AreUntouched}
use Rattle.script.proofs.TellingLemmas.{if_known}
use Rattle.site_service.proofs.EndLemmas.{if_ok, leaves_some, leaves_whole, tells_failure}
use Rattle.site_service.proofs.service.site_over.Goals as goal

pub returns-in-Ok-clause-answered : goal.returns-in-Ok-clause-answered
returns-in-Ok-clause-answered g c = if_known (g.S.Read.remaining c.args.settings.now) _ (λ said known. if_ok (settings_say said) _ (λ s holds.
    if_known (g.R.Read.remaining c.args.input.now) _ (λ bytes given.
    leaves_whole (AreUntouched c.args.input.now c.serve.new.input c.args.output.now c.serve.new.output) (length (lines_of said)) s bytes (g.W.Write.contents c.args.output.now) (g.W.Write.contents c.serve.new.output) (c.in-Ok.ensures.answered said bytes s known holds given))))

pub returns-in-Err-clause-answered : goal.returns-in-Err-clause-answered
returns-in-Err-clause-answered g c = if_known (g.S.Read.remaining c.args.settings.now) _ (λ said known. if_ok (settings_say said) _ (λ s holds.
    if_known (g.R.Read.remaining c.args.input.now) _ (λ bytes given.
    leaves_some _ _ s bytes (g.W.Write.contents c.args.output.now) (g.W.Write.contents c.serve.new.output) (g.E.Write.contents c.args.faults.now) (g.E.Write.contents c.tell.new.faults) c.in-Err.stop c.tell.result
    (c.in-Err.ensures.answered said bytes s known holds given) c.tell.ensures.said)))

pub returns-in-Err-clause-failed : goal.returns-in-Err-clause-failed
returns-in-Err-clause-failed g c = λ failed. if_known (g.S.Read.remaining c.args.settings.now) _ (λ said known. if_ok (settings_say said) _ (λ s holds.
    if_known (g.R.Read.remaining c.args.input.now) _ (λ bytes given.
    tells_failure _ _ s bytes (g.W.Write.contents c.args.output.now) (g.W.Write.contents c.serve.new.output) (g.E.Write.contents c.args.faults.now) (g.E.Write.contents c.tell.new.faults) c.in-Err.stop c.tell.result
    (c.in-Err.ensures.answered said bytes s known holds given) c.tell.ensures.said)))
