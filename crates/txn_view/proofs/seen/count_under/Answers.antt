use Rattle.std.proofs.Common.{◌∙◌, sym, ap, length, is_some, rules, arith}
use Rattle.std.specs.Slice.Iter.{iter_rest}
use Rattle.std.proofs.lemmas.List.{nil_from_length}
use Rattle.txn_view.proofs.SeenLemmas.{counted_none, counted_one, counted_zero, counted_all, is_some_map}
use Rattle.txn_view.proofs.seen.count_under.Goals as goal

pub loop-key-init : goal.loop-key-init
loop-key-init g c = (search rules, search rules, counted_none _ (ap iter_rest c.into_iter-key-iterator.ensures.into_iter_gives ∙ c.range-key-items.ensures.rest) (let same = ap (λ it. length (iter_rest it)) c.into_iter-key-iterator.ensures.into_iter_gives in let fits = c.range-key-items.ensures.fits in omega arith))

pub overflow_add-count : goal.overflow_add-count
overflow_add-count g c = let small = c.loop-key.invariant.2.small in let step = ap length c.in-Some.ensures.steps in omega arith

pub loop-key-preserved-then-is_some : goal.loop-key-preserved-then-is_some
loop-key-preserved-then-is_some g c = (
  search rules,
  search rules,
  counted_one _ c.loop-key.invariant.2 c.in-Some.ensures.steps
      (λ rows a. ap is_some (sym (c.in_ok-get.ensures.found rows a)) ∙ is_some_map (λ r. r.now) c.in_ok-get.field-0 ∙ sym c.is_some.ensures ∙ c.if-is_some.true),
)

pub loop-key-preserved : goal.loop-key-preserved
loop-key-preserved g c = (
  search rules,
  search rules,
  counted_zero _ c.loop-key.invariant.2 c.in-Some.ensures.steps
      (λ rows a. ap is_some (sym (c.in_ok-get.ensures.found rows a)) ∙ is_some_map (λ r. r.now) c.in_ok-get.field-0 ∙ sym c.is_some.ensures ∙ c.if-is_some.false),
)

pub returns-clause-counted : goal.returns-clause-counted
returns-clause-counted g c = counted_all c.loop-key.invariant.2 (nil_from_length _ c.in-None.ensures.steps.0) c.count_in_after_writes.ensures.under
