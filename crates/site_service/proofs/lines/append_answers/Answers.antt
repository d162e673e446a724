use Rattle.std.proofs.Common.{Some, None, Ok, Err, IfSome, length, refl, sym, ap, subst, ◌≡◌, ◌∙◌, ◌+◌}
use Rattle.std.proofs.lemmas.Result.{err_from_is_err_and}
use Rattle.script.specs.declared.stop.Stop.{Stop}
use Rattle.byte_output.specs.Taken.{HasTakenMore, nothing_more}
use Rattle.site.specs.Replica.{setting_of}
use Rattle.site_service.specs.Answering.{ComesTo, GivesLines, IsNoText, order_after}
use Rattle.site_service.proofs.LinesLemmas.{appended_onto, at_start, so_far_answered}
use Rattle.site_service.proofs.lines.append_answers.Goals as goal

pub loop-number-init : goal.loop-number-init
loop-number-init g c = (
  refl,
  λ bytes known order stands.
      at_start (setting_of c.args.site) order bytes (g.R.Read.remaining c.args.input.now) (HasTakenMore g.W.Write.contents c.args.sink.now c.args.sink.now) c.args.site c.args.first known
      (nothing_more g.W.Write.contents c.args.sink.now) stands,
)

pub loop-number-preserved : goal.loop-number-preserved
loop-number-preserved g c = (
  subst (λ o. IfSome o (λ p. setting_of p.site ≡ setting_of c.loop-number.site)) c.in-Some.is c.in_ok-progress.ensures.setting ∙ c.loop-number.invariant.0,
  λ bytes known order stands.
      let so_far = c.loop-number.invariant.1 bytes known order stands in
      let numbered = subst (λ o. IfSome o (λ p. p.number ≡ c.loop-number.number + 1)) c.in-Some.is c.in_ok-progress.ensures.number in
      subst (ComesTo (setting_of c.args.site) order bytes (g.R.Read.remaining c.append_next.new.input) c.args.first (HasTakenMore g.W.Write.contents c.args.sink.now c.append_next.new.sink) c.in-Some.progress.site) numbered
      (appended_onto {A = g.row.A.Denot} g.W.Write.contents c.args.sink.now c.loop-number.sink c.append_next.new.sink (setting_of c.args.site) (setting_of c.loop-number.site) order bytes (g.R.Read.remaining c.loop-number.input) (g.R.Read.remaining c.append_next.new.input)
      c.args.first c.loop-number.number c.loop-number.site so_far (Ok (Some c.in-Some.progress)) c.loop-number.invariant.0
      (subst (λ o. GivesLines (setting_of c.loop-number.site) (order_after (setting_of c.args.site) order so_far.lines) so_far.rest (g.R.Read.remaining c.append_next.new.input) c.loop-number.number (HasTakenMore g.W.Write.contents c.loop-number.sink c.append_next.new.sink) IsNoText (Ok o)) c.in-Some.is
      (c.in_ok-progress.ensures.given so_far.rest so_far.known (order_after (setting_of c.args.site) order so_far.lines) so_far.stands))),
)

pub returns-in_err-progress-clause-given : goal.returns-in_err-progress-clause-given
returns-in_err-progress-clause-given g c = λ bytes known order stands.
    let so_far = c.loop-number.invariant.1 bytes known order stands in
    let p = err_from_is_err_and c.from_residual.result c.from_residual.ensures.1 in
    subst (GivesLines (setting_of c.args.site) order bytes (g.R.Read.remaining c.append_next.new.input) c.args.first (HasTakenMore g.W.Write.contents c.args.sink.now c.append_next.new.sink) IsNoText) (sym (p.1 ∙ ap (λ (x : Stop). Err x) p.2))
    (appended_onto {A = g.row.A.Denot} g.W.Write.contents c.args.sink.now c.loop-number.sink c.append_next.new.sink (setting_of c.args.site) (setting_of c.loop-number.site) order bytes (g.R.Read.remaining c.loop-number.input) (g.R.Read.remaining c.append_next.new.input)
    c.args.first c.loop-number.number c.loop-number.site so_far (Err c.in_err-progress.field-0.0) c.loop-number.invariant.0
    (c.in_err-progress.ensures.given so_far.rest so_far.known (order_after (setting_of c.args.site) order so_far.lines) so_far.stands))

pub returns-then-not-progress-clause-given : goal.returns-then-not-progress-clause-given
returns-then-not-progress-clause-given g c = λ bytes known order stands.
    let so_far = c.loop-number.invariant.1 bytes known order stands in
    appended_onto {A = g.row.A.Denot} g.W.Write.contents c.args.sink.now c.loop-number.sink c.append_next.new.sink (setting_of c.args.site) (setting_of c.loop-number.site) order bytes (g.R.Read.remaining c.loop-number.input) (g.R.Read.remaining c.append_next.new.input)
    c.args.first c.loop-number.number c.loop-number.site so_far (Ok (Some c.in-Some.progress)) c.loop-number.invariant.0
    (subst (λ o. GivesLines (setting_of c.loop-number.site) (order_after (setting_of c.args.site) order so_far.lines) so_far.rest (g.R.Read.remaining c.append_next.new.input) c.loop-number.number (HasTakenMore g.W.Write.contents c.loop-number.sink c.append_next.new.sink) IsNoText (Ok o)) c.in-Some.is
    (c.in_ok-progress.ensures.given so_far.rest so_far.known (order_after (setting_of c.args.site) order so_far.lines) so_far.stands))

pub returns-in-None-clause-given : goal.returns-in-None-clause-given
returns-in-None-clause-given g c = λ bytes known order stands.
    let so_far = c.loop-number.invariant.1 bytes known order stands in
    appended_onto {A = g.row.A.Denot} g.W.Write.contents c.args.sink.now c.loop-number.sink c.append_next.new.sink (setting_of c.args.site) (setting_of c.loop-number.site) order bytes (g.R.Read.remaining c.loop-number.input) (g.R.Read.remaining c.append_next.new.input)
    c.args.first c.loop-number.number c.loop-number.site so_far (Ok None) c.loop-number.invariant.0
    (subst (λ o. GivesLines (setting_of c.loop-number.site) (order_after (setting_of c.args.site) order so_far.lines) so_far.rest (g.R.Read.remaining c.append_next.new.input) c.loop-number.number (HasTakenMore g.W.Write.contents c.loop-number.sink c.append_next.new.sink) IsNoText (Ok o)) c.in-None.is
    (c.in_ok-progress.ensures.given so_far.rest so_far.known (order_after (setting_of c.args.site) order so_far.lines) so_far.stands))

pub returns-clause-given : goal.returns-clause-given
returns-clause-given g c = λ bytes known order stands.
    let so_far = c.loop-number.invariant.1 bytes known order stands in (
      length so_far.lines,
      so_far_answered (setting_of c.args.site) order bytes (g.R.Read.remaining c.loop-number.input) c.args.first (HasTakenMore g.W.Write.contents c.args.sink.now c.loop-number.sink) c.loop-number.site c.loop-number.number so_far,
    )
