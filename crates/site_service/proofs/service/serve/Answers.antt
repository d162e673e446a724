use Rattle.std.proofs.Common.{◌∙◌, Err, ap, rules}
use Rattle.std.proofs.lemmas.Result.{err_from_is_err_and}
use Rattle.site_service.specs.Settings.{settings_say}
use Rattle.site_service.proofs.EndLemmas.{unread, wants_first}
use Rattle.site_service.proofs.service.serve.Goals as goal

pub returns-in_err-settings-clause-answered : goal.returns-in_err-settings-clause-answered
returns-in_err-settings-clause-answered g c = λ said bytes s known holds given.
    let p = err_from_is_err_and c.from_residual.result c.from_residual.ensures.1 in
    unread _ _ s bytes (g.W.Write.contents c.args.output.now) (settings_say said) c.in_err-settings.field-0.0 c.from_residual.result (search rules) holds (c.in_err-settings.ensures.stop said known) (p.1 ∙ ap (λ stop. Err stop) p.2)

pub returns-in_default-clause-answered : goal.returns-in_default-clause-answered
returns-in_default-clause-answered g c = λ said bytes s known holds given.
    wants_first _ _ s bytes (g.W.Write.contents c.args.output.now) c.out_of_memory.result (search rules) c.out_of_memory.ensures

pub returns-in_default-new-clause-answered : goal.returns-in_default-new-clause-answered
returns-in_default-new-clause-answered g c = λ said bytes s known holds given.
    wants_first _ _ s bytes (g.W.Write.contents c.args.output.now) c.out_of_memory-in_default-new.result (search rules) c.out_of_memory-in_default-new.ensures
