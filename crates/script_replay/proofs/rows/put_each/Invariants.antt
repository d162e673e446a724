use Rattle.std.proofs.Common.{◌≡◌, ℕ, ◌≤◌, ◌*◌, ◌^◌, List, length}
use Rattle.byte_output.specs.Pending.{output_of, Passes}
use Rattle.schema.specs.Rows.{Key, Rows}
use Rattle.script_replay.specs.Listing.{HasRowKeys, AreBefore, lines_of}
use Rattle.script_replay.proofs.rows.put_each.Given as goal

-- the rows of the tables so far are listed and given
abbrev pub invariant-loop-table : goal.invariant-loop-table
invariant-loop-table g l = record {
  few : l.count ≤ l.table * 2 ^ 64;
  same : (output_of l.output).ghost_name ≡ (output_of l.initial.output).ghost_name;
  given : (all : Rows) → g.S.Store.answers_from l.rows all → HasRowKeys all
      → (listed : List (Key × List ℕ)) × (l.count ≡ length listed) × AreBefore (l.table, 0) listed all
      × Passes g.W.Write.contents l.initial.output l.output (lines_of listed);
}
