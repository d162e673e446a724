use Rattle.std.proofs.Common.{◌≡◌, sym, subst, arith, rules}
use Rattle.schema.specs.Rows.{AreRows}
use Rattle.plain_site.proofs.SiteLemmas.{each_byte}
use Rattle.plain_site.proofs.run.begin.Goals as goal

pub returns-clause-suits : goal.returns-clause-suits
returns-clause-suits g c = record {
  long = search rules;
  bytes = each_byte c.args.args.now (λ i. let f = c.type_inv.args i in omega (arith, f));
  of_schema = subst (λ tables. AreRows tables c.in-Some.map) c.schema.ensures (rw c.in-Some.is at c.in-Ok.ensures.fit);
}

pub returns-clause-rows : goal.returns-clause-rows
returns-clause-rows g c = rw c.in-Some.is at c.in-Ok.ensures.rows

pub returns-clause-first : goal.returns-clause-first
returns-clause-first g c = c.in-Ok-start.ensures.starts c.in-Some.map
