use Rattle.std.proofs.Common.{◌≡◌, ◌≤◌, ◌+◌, ◌-◌, ℕ, List, length}
use Rattle.row_chain.specs.Slots.{Slot, AreRising}
use Rattle.key_table.specs.Pages.{all_slots, least_keys, page_place, AreFilled}
use Rattle.key_table.proofs.pages.place_of.Given as goal

abbrev pub invariant-loop-low : goal.invariant-loop-low
invariant-loop-low l = record {
  within : l.high ≤ length l.least;
  first : 1 ≤ l.low;
  order : l.low ≤ l.high;
  low : (most : ℕ) (ps : List (List Slot)) → l.least ≡ least_keys ps → AreFilled most ps → AreRising (all_slots ps) → l.low ≤ page_place l.key ps + 1;
  high : (most : ℕ) (ps : List (List Slot)) → l.least ≡ least_keys ps → AreFilled most ps → AreRising (all_slots ps) → page_place l.key ps + 1 ≤ l.high;
}

abbrev pub decreases-loop-low : goal.decreases-loop-low
decreases-loop-low l = l.high - l.low
