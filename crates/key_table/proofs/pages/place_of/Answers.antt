use Rattle.std.proofs.Common.{◌≡◌, ◌≤◌, ◌<◌, ◌+◌, ◌-◌, ◌/◌, ◌∙◌, ℕ, true, false, List, [], length, get_or, subst, arith}
use Rattle.row_chain.proofs.TableLemmas.{test_true, test_false}
use Rattle.row_chain.specs.Slots.{Slot}
use Rattle.key_table.specs.Pages.{begins_by, least_keys, AreFilled}
use Rattle.key_table.proofs.PlaceLemmas.{place_ge, place_lt, place_within}
use Rattle.key_table.proofs.LeastLemmas.{begins_least, length-least}
use Rattle.key_table.proofs.pages.place_of.Goals as goal

begins : (most : ℕ) (k : ℕ) (ps : List (List Slot)) (ls : List ℕ) (m : ℕ) → AreFilled most ps → m < length ps → ls ≡ least_keys ps → get_or ls m 0 ≤ k → begins_by k (get_or ps m []) ≡ true
begins most k ps ls m filled lt is le = begins_least most k ps m [] 0 filled lt ∙ test_true (get_or (least_keys ps) m 0) k (subst (λ (l : List ℕ). get_or l m 0 ≤ k) is le)

later : (most : ℕ) (k : ℕ) (ps : List (List Slot)) (ls : List ℕ) (m : ℕ) → AreFilled most ps → m < length ps → ls ≡ least_keys ps → k < get_or ls m 0 → begins_by k (get_or ps m []) ≡ false
later most k ps ls m filled lt is gt = begins_least most k ps m [] 0 filled lt ∙ test_false (get_or (least_keys ps) m 0) k (subst (λ (l : List ℕ). k < get_or l m 0) is gt)

pub loop-low-init : goal.loop-low-init
loop-low-init c = record {
  within = omega arith;
  first = omega arith;
  order = omega arith;
  low = λ most ps is filled up. omega arith;
  high = λ most ps is filled up. let n = length-least c.args.least.now ps is in let w = place_within c.args.key ps (omega (arith, n)) in omega (arith, n, w);
}

pub loop-low-preserved-then-least-middle : goal.loop-low-preserved-then-least-middle
loop-low-preserved-then-least-middle c =
    let m = c.loop-low.low + (c.loop-low.high - c.loop-low.low) / 2 in
    record {
      within = omega arith;
      first = omega arith;
      order = omega arith;
      low = λ most ps is filled up.
          let n = length-least c.args.least.now ps is in
          let by = begins most c.args.key ps c.args.least.now m filled (omega (arith, n)) is c.if-least-middle.true in
          let ge = place_ge most c.args.key ps m [] filled up (omega arith) (omega (arith, n)) by in
          omega (arith, ge);
      high = c.loop-low.invariant.high;
    }

pub loop-low-preserved : goal.loop-low-preserved
loop-low-preserved c =
    let m = c.loop-low.low + (c.loop-low.high - c.loop-low.low) / 2 in
    record {
      within = omega arith;
      first = omega arith;
      order = omega arith;
      low = c.loop-low.invariant.low;
      high = λ most ps is filled up.
          let n = length-least c.args.least.now ps is in
          let by = later most c.args.key ps c.args.least.now m filled (omega (arith, n)) is c.if-least-middle.false in
          let lt = place_lt c.args.key ps m [] (omega arith) (omega (arith, n)) by in
          omega (arith, lt);
    }

pub returns-clause-place : goal.returns-clause-place
returns-clause-place c most ps is filled up =
    let low = c.loop-low.invariant.low most ps is filled up in
    let high = c.loop-low.invariant.high most ps is filled up in
    omega (arith, low, high)
