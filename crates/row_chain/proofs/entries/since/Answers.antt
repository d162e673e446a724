use Rattle.std.proofs.Common.{◌≡◌, ◌-◌, ◌∙◌, ℕ, List, length, take, drop, subst, sym, ap}
use Rattle.std.proofs.lemmas.List.{take_rest}
use Rattle.row_chain.specs.Slots.{Slot, AreRising, AreFrom, below, rows_between}
use Rattle.row_chain.proofs.TableLemmas.{rising-drop, from-drop_below, rows-drop_below}
use Rattle.row_chain.proofs.entries.since.Goals as goal

same : (lo n : ℕ) (es : List Slot) → n ≡ below lo es → take (length es - n) (drop n es) ≡ drop (below lo es) es
same lo n es is = take_rest es n ∙ ap (λ (k : ℕ). drop k es) is

pub returns-clause-rising : goal.returns-clause-rising
returns-clause-rising g c = subst AreRising (sym (same c.args.lo c.place-from.result c.args.entries.now c.place-from.ensures.place)) (rising-drop (below c.args.lo c.args.entries.now) c.args.entries.now c.requires)

pub returns-clause-from : goal.returns-clause-from
returns-clause-from g c = subst (AreFrom c.args.lo) (sym (same c.args.lo c.place-from.result c.args.entries.now c.place-from.ensures.place)) (from-drop_below c.args.lo c.args.entries.now c.requires)

pub returns-clause-same : goal.returns-clause-same
returns-clause-same g c s hi = ap (rows_between s c.args.lo hi) (same c.args.lo c.place-from.result c.args.entries.now c.place-from.ensures.place) ∙ rows-drop_below s c.args.lo hi c.args.entries.now
