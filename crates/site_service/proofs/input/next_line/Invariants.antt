use Rattle.std.proofs.Common.{◌≡◌, ◌+◌, ◌≤◌, ℕ, List, Some, vec_len}
use Rattle.site_service.specs.declared.input.TheConstants.{MAX_SITE_LINE}
use Rattle.site_service.proofs.ReadingLemmas.{Partly}
use Rattle.site_service.proofs.input.next_line.Given as goal

abbrev pub invariant-loop : goal.invariant-loop
invariant-loop g l = (vec_len l.line ≤ MAX_SITE_LINE + 1)
    × ((bytes : List ℕ) → g.R.Read.remaining l.initial.input ≡ Some bytes → Partly bytes (g.R.Read.remaining l.input) l.line.items)
