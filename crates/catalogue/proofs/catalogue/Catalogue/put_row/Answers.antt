use Rattle.std.proofs.Common.{◌≡◌, ◌<◌, length, Some, rules, arith}
use Rattle.std.specs.Prelude.{◌^◌}
use Rattle.std.specs.FinMap.{get}
use Rattle.catalogue.proofs.BeginningLemmas.{row_more}
use Rattle.catalogue.proofs.catalogue.Catalogue.put_row.Goals as goal

pub invariant_of-self-2 : goal.invariant_of-self-2
invariant_of-self-2 g c =
    let wide : get c.self.inside.schema c.args.table ≡ Some (length c.args.bytes.now) = search rules in
    let fits : c.args.key < 2 ^ 64 = search rules in
    record {
      of_tables = row_more c.self.inside.schema c.self.inside.rows c.add.new.self c.args.table c.args.key c.args.bytes.now c.self.invariant.of_tables
          wide fits (λ i. let f = c.type_inv.bytes i in omega (arith, f)) (search rules);
      for_tables = c.self.invariant.for_tables;
    }
