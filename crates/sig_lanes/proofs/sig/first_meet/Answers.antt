use Rattle.std.proofs.Common.{ℕ, List, inl, inr, sym, subst, ap, ◌∙◌, [], get_or, arith}
use Rattle.std.proofs.lemmas.List.{get_or_default}
use Rattle.sig_lanes.specs.Bits.{Meet}
use Rattle.sig_lanes.proofs.BitLemmas.{last_or_before}
use Rattle.sig_lanes.proofs.sig.first_meet.Goals as goal

pub loop-index-preserved : goal.loop-index-preserved
loop-index-preserved c = λ j lt met. elim (last_or_before j c.loop-index.index lt) [
  | inl before ↦ c.loop-index.invariant j before met
  | inr same ↦ (
      let here = ap (λ (i : ℕ). get_or {A = List ℕ} c.args.all.now i []) same ∙ get_or_default c.args.all.now c.loop-index.index [] c.index-all-index.result c.loop-index-test.true ∙ sym c.index-all-index.is in
      let bad = c.if-meets.ensures.1 (subst (Meet c.args.sig.now) here met) in
      absurd cc)
]

pub returns-clause-none : goal.returns-clause-none
returns-clause-none c = λ other lt. let end = c.loop-index-test.false in c.loop-index.invariant other (omega arith)
