use Rattle.std.proofs.Common.{◌≡◌, ℕ, ◌≤◌, ◌<◌, ◌-◌, ◌^◌, List, ◌++◌, length}
use Rattle.byte_output.specs.Pending.{output_of, Passes}
use Rattle.schema.specs.Rows.{Key, Rows}
use Rattle.script_replay.specs.Listing.{HasRowKeys, AreBefore, lines_of}
use Rattle.script_replay.proofs.rows.put_table.Given as goal

-- so many rows are listed and given, up to the least key that is looked for
abbrev pub invariant-loop-key : goal.invariant-loop-key
invariant-loop-key g l = record {
  few : l.count ≤ l.lo;
  word : l.lo < 2 ^ 64;
  same : (output_of l.output).ghost_name ≡ (output_of l.initial.output).ghost_name;
  given : (all : Rows) (listed : List (Key × List ℕ)) → g.S.Store.answers_from l.rows all → HasRowKeys all → AreBefore (l.table, 0) listed all
      → (more : List (Key × List ℕ)) × (l.count ≡ length more) × AreBefore (l.table, l.lo) (listed ++ more) all
      × Passes g.W.Write.contents l.initial.output l.output (lines_of more);
}

abbrev pub decreases-loop-key : goal.decreases-loop-key
decreases-loop-key g l = 2 ^ 64 - l.lo
