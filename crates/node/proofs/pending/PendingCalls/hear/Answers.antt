use Rattle.std.proofs.Common.{◌≡◌, length, slice_get, refl, sym, ap, ◌∙◌, arith, subst}
use Rattle.std.specs.Prelude.{Some, vec_len}
use Rattle.std.proofs.lemmas.Option.{slice_get_read}
use Rattle.node.specs.Requests.{AreHeard}
use Rattle.node.specs.Nodes.{PendingState}
use Rattle.node.proofs.HeardLemmas.{heard_next}
use Rattle.node.proofs.pending.PendingCalls.hear.Goals as goal

pub loop-place-preserved : goal.loop-place-preserved
loop-place-preserved g c =
    let me = c.self.inside in
    let so_far = c.loop-place.invariant in
    let len : vec_len c.loop-place.answers ≡ length c.loop-place.answers.items = c.loop-place.answers.ok.0 in
    let at : length c.loop-place.answers.items ≡ c.loop-place.place = sym len ∙ so_far.0 in
    let here : slice_get me.requests.now c.loop-place.place ≡ Some c.index-requests-place.result = slice_get_read me.requests.now (length me.requests.now) c.loop-place.place c.index-requests-place.result refl c.loop-place-test.true c.index-requests-place.is in
    let heard = heard_next g.J.LogSetting.setting me.desk.now.replicas me.replica me.requests.now c.loop-place.answers.items c.index-requests-place.result c.answer_at.result (ap (slice_get me.requests.now) at ∙ here) so_far.2 c.answer_at.ensures in
    let pushed = c.push_reserved.ensures in (
      rw pushed.len (omega (arith, so_far.0)),
      rw pushed.capacity so_far.1,
      rw pushed.items heard,
    )

pub returns : goal.returns
returns g c =
    let me = c.self.inside in
    let so_far = c.loop-place.invariant in
    let len : vec_len c.loop-place.answers ≡ length c.loop-place.answers.items = c.loop-place.answers.ok.0 in
    let count : length c.loop-place.answers.items ≡ length me.requests.now = omega (arith, len, so_far.0, c.loop-place-test.false, c.loop-place.auto.place-end) in
    subst (λ (p : PendingState). AreHeard g.J.LogSetting.setting p.replicas p.replica p.requests c.loop-place.answers.items) c.self.view_is
    (record { count = count; each = so_far.2 })
