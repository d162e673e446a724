use Rattle.std.proofs.Common.{◌≡◌, ◌-◌}
use Rattle.schema.specs.Rows.{Rows, first_in, rows_elsewhere}
use Rattle.txn_view.proofs.seen.first_elsewhere.Given as goal

-- the first is one from lo on
abbrev pub invariant-loop-key : goal.invariant-loop-key
invariant-loop-key g l = (rows : Rows) → g.S.Store.answers_from l.store rows
    → first_in l.look (rows_elsewhere l.writes rows) ≡ first_in (record l.look { lo = l.lo }) (rows_elsewhere l.writes rows)

abbrev pub decreases-loop-key : goal.decreases-loop-key
decreases-loop-key g l = l.look.hi - l.lo
