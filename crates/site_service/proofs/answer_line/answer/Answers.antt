use Rattle.std.proofs.Common.{◌≢◌, [], Some, None, refl, sym, subst, rules}
use Rattle.site_service.specs.Lines.{line_says}
use Rattle.script.specs.declared.fault.LineFault.TheVariants.{NoMemory}
use Rattle.site.specs.Replica.{StandsForOrder, setting_of}
use Rattle.site_service.specs.LineAnswers.{IsLineAnswer, order_behind}
use Rattle.script.proofs.SaidLemmas.{ok_gives}
use Rattle.site_service.proofs.AnswerLemmas.{says_fault, says_this}
use Rattle.site_service.proofs.answer_line.answer.Goals as goal

pub returns-in-Ok-None-clause-answered : goal.returns-in-Ok-None-clause-answered
returns-in-Ok-None-clause-answered g c = λ order stands.
    let says = says_this (line_says c.args.line.now) c.in-Ok-None.field-0 None c.in-Ok-None.ensures.exact c.in-Ok-None.field-0-is in
    ([], subst (λ s. IsLineAnswer (setting_of c.args.site) order s []) (sym says) refl, g.met.S.ByteSink.nothing c.args.sink.now)

pub returns-in-Ok-Some-clause-answered : goal.returns-in-Ok-Some-clause-answered
returns-in-Ok-Some-clause-answered g c =
    let says = says_this (line_says c.args.line.now) c.in-Ok-Some.field-0 (Some c.in-Ok-Some.request) c.in-Ok-Some.ensures.exact c.in-Ok-Some.field-0-is in
    ok_gives c.answer_request.result _ _ c.answer_request.ensures.answered (λ next given order stands.
    let a = given order stands in
    (a.0, subst (λ s. IsLineAnswer (setting_of c.args.site) order s a.0) (sym says) a.1, a.2))

pub returns-in-Ok-Some-clause-stands : goal.returns-in-Ok-Some-clause-stands
returns-in-Ok-Some-clause-stands g c =
    let says = says_this (line_says c.args.line.now) c.in-Ok-Some.field-0 (Some c.in-Ok-Some.request) c.in-Ok-Some.ensures.exact c.in-Ok-Some.field-0-is in
    ok_gives c.answer_request.result _ _ c.answer_request.ensures.stands (λ next given order stands.
    subst (λ s. StandsForOrder next (order_behind (setting_of c.args.site) order s)) (sym says) (given order stands))

pub returns-else-eq-clause-stands : goal.returns-else-eq-clause-stands
returns-else-eq-clause-stands g c =
    let known : c.in-Err.fault ≢ NoMemory = search rules in
    let says = says_fault (line_says c.args.line.now) c.in-Err.fault NoMemory c.in-Err.ensures.fault known in
    λ order stands. subst (λ s. StandsForOrder c.args.site (order_behind (setting_of c.args.site) order s)) (sym says) stands
