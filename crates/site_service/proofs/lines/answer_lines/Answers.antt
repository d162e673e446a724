use Rattle.std.proofs.Common.{Some, None, Ok, Err, IfSome, [], length, refl, sym, ap, subst, ◌≡◌, ◌∙◌}
use Rattle.std.proofs.lemmas.Result.{err_from_is_err_and}
use Rattle.std.specs.Io.KnownBytes.{Appends}
use Rattle.byte_output.proofs.TakenLemmas.{Appends-nothing}
use Rattle.script.specs.declared.stop.Stop.{Stop}
use Rattle.site.specs.Replica.{setting_of}
use Rattle.site_service.specs.Answering.{LeavesAnswers, LeavesLines, order_after}
use Rattle.site_service.proofs.LinesLemmas.{at_start, leaves_err, so_far_answered, written_onto}
use Rattle.site_service.proofs.lines.answer_lines.Goals as goal

pub loop-init : goal.loop-init
loop-init g c = (
  refl,
  λ bytes known.
      at_start (setting_of c.args.site) [] bytes (g.R.Read.remaining c.args.input.now) (Appends (g.W.Write.contents c.args.output.now) (g.W.Write.contents c.args.output.now)) c.args.site 1 known
      (Appends-nothing (g.W.Write.contents c.args.output.now)) c.requires,
)

pub loop-preserved : goal.loop-preserved
loop-preserved g c = (
  subst (λ o. IfSome o (λ p. setting_of p.site ≡ setting_of c.loop.site)) c.in-Some.is c.in_ok-progress.ensures.setting ∙ c.loop.invariant.0,
  λ bytes known.
      let so_far = c.loop.invariant.1 bytes known in
      written_onto {A = g.row.A.Denot} (g.W.Write.contents c.args.output.now) (g.W.Write.contents c.loop.output) (g.W.Write.contents c.answer_at_hand.new.output) (setting_of c.args.site) (setting_of c.loop.site) [] bytes (g.R.Read.remaining c.loop.input)
      (g.R.Read.remaining c.answer_at_hand.new.input) 1 c.loop.number c.loop.site so_far (Ok (Some c.in-Some.progress)) c.loop.invariant.0
      (subst (λ o. LeavesLines (setting_of c.loop.site) (order_after (setting_of c.args.site) [] so_far.lines) so_far.rest (g.R.Read.remaining c.answer_at_hand.new.input) c.loop.number (g.W.Write.contents c.loop.output) (g.W.Write.contents c.answer_at_hand.new.output) (Ok o)) c.in-Some.is
      (c.in_ok-progress.ensures.given so_far.rest so_far.known (order_after (setting_of c.args.site) [] so_far.lines) so_far.stands)),
)

pub returns-in_err-progress : goal.returns-in_err-progress
returns-in_err-progress g c = λ bytes known.
    let so_far = c.loop.invariant.1 bytes known in
    let p = err_from_is_err_and c.from_residual.result c.from_residual.ensures.1 in
    subst (LeavesAnswers (setting_of c.args.site) bytes (g.W.Write.contents c.args.output.now) (g.W.Write.contents c.answer_at_hand.new.output)) (sym (p.1 ∙ ap (λ (x : Stop). Err x) p.2))
    (leaves_err g.row.A.Denot (setting_of c.args.site) bytes (g.R.Read.remaining c.answer_at_hand.new.input) (g.W.Write.contents c.args.output.now) (g.W.Write.contents c.answer_at_hand.new.output) c.in_err-progress.field-0.0
    (written_onto {A = g.row.A.Denot} (g.W.Write.contents c.args.output.now) (g.W.Write.contents c.loop.output) (g.W.Write.contents c.answer_at_hand.new.output) (setting_of c.args.site) (setting_of c.loop.site) [] bytes (g.R.Read.remaining c.loop.input)
    (g.R.Read.remaining c.answer_at_hand.new.input) 1 c.loop.number c.loop.site so_far (Err c.in_err-progress.field-0.0) c.loop.invariant.0
    (c.in_err-progress.ensures.given so_far.rest so_far.known (order_after (setting_of c.args.site) [] so_far.lines) so_far.stands)))

pub returns-in-None : goal.returns-in-None
returns-in-None g c = λ bytes known.
    let so_far = c.loop.invariant.1 bytes known in
    written_onto {A = g.row.A.Denot} (g.W.Write.contents c.args.output.now) (g.W.Write.contents c.loop.output) (g.W.Write.contents c.answer_at_hand.new.output) (setting_of c.args.site) (setting_of c.loop.site) [] bytes (g.R.Read.remaining c.loop.input)
    (g.R.Read.remaining c.answer_at_hand.new.input) 1 c.loop.number c.loop.site so_far (Ok None) c.loop.invariant.0
    (subst (λ o. LeavesLines (setting_of c.loop.site) (order_after (setting_of c.args.site) [] so_far.lines) so_far.rest (g.R.Read.remaining c.answer_at_hand.new.input) c.loop.number (g.W.Write.contents c.loop.output) (g.W.Write.contents c.answer_at_hand.new.output) (Ok o)) c.in-None.is
    (c.in_ok-progress.ensures.given so_far.rest so_far.known (order_after (setting_of c.args.site) [] so_far.lines) so_far.stands))

pub returns : goal.returns
returns g c = λ bytes known.
    let so_far = c.loop.invariant.1 bytes known in (
      length so_far.lines,
      so_far_answered (setting_of c.args.site) [] bytes (g.R.Read.remaining c.loop.input) 1 (Appends (g.W.Write.contents c.args.output.now) (g.W.Write.contents c.loop.output)) c.loop.site c.loop.number so_far,
    )
