use Rattle.std.proofs.Common.{◌≡◌, ◌≤◌, sym, ap, ◌∙◌, subst}
use Rattle.tallies.specs.declared.ledgers.TheConstants.{GRANT}
use Rattle.tallies.specs.declared.counts.Counts.{Counts}
use Rattle.tallies.specs.Counted.{AreBelow, AreWithin, sum_of, one_more, no_counts}
use Rattle.tallies.specs.Tallies.{Tallied}
use Rattle.tallies.proofs.CountLemmas.{one_left, exchanged}
use Rattle.tallies.proofs.tally.Tally.count.Goals as goal

pub take-requires : goal.take-requires
take-requires g c =
    let me = c.self.inside in
    let some : 1 ≤ me.threads = subst (λ (t : Tallied). 1 ≤ t.threads) (sym c.self.view_is) c.requires.threads in
    let room : AreBelow GRANT me.counts = subst (λ (t : Tallied). AreBelow GRANT t.counts) (sym c.self.view_is) c.requires.room in
    subst (AreWithin me.left) (sym c.of_one.ensures) (one_left me.threads me.left me.counts c.args.kind some room c.self.invariant.1)

pub invariant_of-self : goal.invariant_of-self
invariant_of-self g c =
    let me = c.self.inside in
    let kind = c.args.kind in
    let left = c.take.new.self in
    let counted : sum_of left c.add_one.new.self ≡ sum_of left (one_more kind me.counts) = ap (sum_of left) c.add_one.ensures.one_more in
    let taken : sum_of left (one_more kind no_counts) ≡ me.left = ap (sum_of left) (sym c.of_one.ensures) ∙ c.take.ensures.left in
    (c.self.invariant.0, counted ∙ exchanged left me.counts kind ∙ ap (λ (l : Counts). sum_of l me.counts) taken ∙ c.self.invariant.1)

pub returns-clause-below : goal.returns-clause-below
returns-clause-below g c = λ bound below. c.add_one.ensures.below bound (subst (λ (t : Tallied). AreBelow bound t.counts) (sym c.self.view_is) below)
