use Rattle.std.proofs.Common.{◌≡◌, drop}
use Rattle.schema.specs.Schema.{AreTables, with_pairs, schema_of}
use Rattle.schema.proofs.schema.Schema.new.Given as goal

-- the tables so far and the pairs that are left give what all pairs give
abbrev pub invariant-loop-table : goal.invariant-loop-table
invariant-loop-table g l = record {
  told : with_pairs (drop l.table-index l.pairs) l.schema ≡ schema_of l.pairs;
  tables : AreTables l.schema;
}
