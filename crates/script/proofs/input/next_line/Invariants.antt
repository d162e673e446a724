use Rattle.std.proofs.Common.{◌≡◌, ◌≤◌, ℕ, List, Some, vec_len}
use Rattle.script.specs.Text.{max_line}
use Rattle.script.proofs.LineLemmas.{Partly}
use Rattle.script.proofs.input.next_line.Given as goal

abbrev pub invariant-loop : goal.invariant-loop
invariant-loop g l = (vec_len l.line ≤ max_line) × ((bytes : List ℕ) → g.R.Read.remaining l.initial.input ≡ Some bytes → Partly bytes (g.R.Read.remaining l.input) l.line.items)
