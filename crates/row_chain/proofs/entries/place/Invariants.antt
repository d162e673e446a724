use Rattle.std.proofs.Common.{◌≤◌, ◌-◌, length}
use Rattle.row_chain.specs.Slots.{below}
use Rattle.row_chain.proofs.entries.place.Given as goal

abbrev pub invariant-loop-low : goal.invariant-loop-low
invariant-loop-low g l = record { within : l.low ≤ length l.entries; low : l.low ≤ below l.key l.entries }

abbrev pub decreases-loop-low : goal.decreases-loop-low
decreases-loop-low g l = length l.entries - l.low

abbrev pub invariant-loop-low-2 : goal.invariant-loop-low-2
invariant-loop-low-2 g l = record { within : l.low ≤ length l.entries; low : l.low ≤ below l.key l.entries }

abbrev pub decreases-loop-low-2 : goal.decreases-loop-low-2
decreases-loop-low-2 g l = length l.entries - l.low
