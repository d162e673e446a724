use Rattle.std.proofs.Common.{◌≡◌, ◌<◌, ◌∙◌, length, get_or, ap, sym, subst, arith}
use Rattle.script_run.specs.Answered.{IsMadeCall}
use Rattle.script_run.proofs.answers.Found.put_share.Goals as goal

pub loop-made-preserved : goal.loop-made-preserved
loop-made-preserved g c =
    let test = c.loop-made-test.true in
    let same = c.deref-made-items.ensures.value in
    let count : length c.deref-made-items.result.now ≡ length c.args.share.now.items = ap length same in
    let lt : c.loop-made.made-index < length c.args.share.now.items = omega arith in (
      λ replicas calls before all.
          c.put.ensures.found replicas calls (c.loop-made.invariant.0 replicas calls before all)
          (subst (IsMadeCall g.J.LogSetting.setting replicas calls) (sym (c.made-item.is ∙ ap (λ ms. get_or ms c.loop-made.made-index c.made-item.result) c.deref-made-items.ensures.value)) (all c.loop-made.made-index c.made-item.result lt)),
      c.put.ensures.len ∙ c.loop-made.invariant.1,
    )
