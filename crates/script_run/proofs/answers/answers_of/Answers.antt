use Rattle.std.proofs.Common.{◌≡◌, ◌<◌, ◌∙◌, length, get_or, slice_get, sym, subst, ap, arith}
use Rattle.std.specs.Prelude.{All, Some, vec_len}
use Rattle.script_run.specs.Answered.{AreFoundOf, AreToldOf, IsMadeCall}
use Rattle.script_run.specs.Planned.{planned_calls}
use Rattle.script_run.proofs.AnsweredLemmas.{answers_longer, found_longer, told_more}
use Rattle.script_run.proofs.answers.answers_of.Goals as goal

pub loop-share-preserved : goal.loop-share-preserved
loop-share-preserved g c =
    let calls = planned_calls c.args.asking.now.calls.items in
    let test = c.loop-share-test.true in
    let same = c.deref-share-items.ensures.value in
    let shares : length c.deref-share-items.result.now ≡ length c.args.shares.items = ap length same in
    let lt : c.loop-share.share-index < length c.args.shares.items = omega arith in (
      c.put_share.ensures.found c.args.desk.now.replicas calls c.loop-share.invariant.0
          (subst (λ share. All (IsMadeCall g.J.LogSetting.setting c.args.desk.now.replicas calls) share.items) (sym (c.share-item.is ∙ ap (λ ss. get_or ss c.loop-share.share-index c.share-item.result) c.deref-share-items.ensures.value))
          (c.requires c.loop-share.share-index c.share-item.result lt)),
      c.put_share.ensures.len ∙ c.loop-share.invariant.1,
    )

pub loop-place-preserved : goal.loop-place-preserved
loop-place-preserved g c =
    let w = g.J.LogSetting.setting in
    let replicas = c.args.desk.now.replicas in
    let calls = planned_calls c.args.asking.now.calls.items in
    let log = c.loop-place.found.log in
    let longer = c.answer.new.self.log in
    let answers = c.loop-place.answers.items in
    let ok = c.loop-place.answers.ok in
    let place = c.loop-place.invariant.3 in
    let count : length answers ≡ c.loop-place.place = omega arith in
    let more = told_more w replicas longer calls answers c.answer.result (answers_longer w replicas log longer calls answers c.answer.ensures.log c.loop-place.invariant.2)
    (λ call at. c.answer.ensures.told call (subst (λ i. slice_get calls i ≡ Some call) count at)) in (
      subst (λ v. AreFoundOf w replicas longer calls v.items) (sym c.answer.ensures.same)
          (found_longer w replicas log longer calls c.loop-place.found.answers.items c.answer.ensures.log c.loop-place.invariant.0),
      ap vec_len c.answer.ensures.same ∙ c.loop-place.invariant.1,
      subst (AreToldOf w replicas longer calls) (sym c.in_ok-push.ensures.items) more,
      (let pushed = c.in_ok-push.ensures.len in omega arith),
    )
