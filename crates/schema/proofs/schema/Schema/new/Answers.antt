use Rattle.std.proofs.Common.{ap}
use Rattle.std.specs.FinMap.{from_entries}
use Rattle.schema.specs.Schema.{with_pairs}
use Rattle.schema.proofs.SchemaLemmas.{no_tables}
use Rattle.schema.proofs.schema.Schema.new.Goals as goal

pub invariant_of-schema : goal.invariant_of-schema
invariant_of-schema g c = no_tables c.new.result.entries c.new.ensures.empty

pub loop-table-init : goal.loop-table-init
loop-table-init g c = record {
  told = ap (λ es. with_pairs c.args.pairs.now (from_entries es)) c.new.ensures.empty;
  tables = no_tables c.new.result.entries c.new.ensures.empty;
}
