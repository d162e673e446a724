use Rattle.std.proofs.Common.{◌∙◌, List, inl, inr, sym, ap}
use Rattle.std.specs.Slice.Iter.{iter_rest}
use Rattle.std.proofs.lemmas.List.{nil_from_length}
use Rattle.std.specs.FinMap.{find, get-entries}
use Rattle.schema.specs.Rows.{key_cmp}
use Rattle.test_replicas.proofs.FitLemmas.{Write, fits_or_later, none_later}
use Rattle.test_replicas.proofs.fit.writes_fit.Goals as goal

pub loop-key-init : goal.loop-key-init
loop-key-init g c = λ k write e.
    let whole = ap iter_rest c.into_iter-key-iterator.ensures.into_iter_gives ∙ c.iter-key-items.ensures.rest in
    inr (ap (λ (l : List Write). find key_cmp k l) whole ∙ sym (get-entries c.args.writes.now k) ∙ e)

pub loop-key-preserved : goal.loop-key-preserved
loop-key-preserved g c = λ k write e. elim (c.loop-key.invariant k write e) [
  | inl fits ↦ inl fits
  | inr left ↦ fits_or_later c.args.schema.now c.in-Some.field-0.now (iter_rest c.next.new.self) k write (c.write_fits.ensures c.if-not-write_fits.false)
      (ap (λ (l : List Write). find key_cmp k l) (sym c.in-Some.ensures.steps) ∙ left)
]

pub returns : goal.returns
returns g c = λ _ k write e. elim (c.loop-key.invariant k write e) [
  | inl fits ↦ fits
  | inr left ↦ absurd (none_later (iter_rest c.loop-key.key-iterator) k write (nil_from_length _ c.in-None.ensures.steps.0) left)
]
