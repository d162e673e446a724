use Rattle.std.proofs.Common.{◌∙◌, sym, ap, subst, ◌≡◌, rules}
use Rattle.std.specs.Prelude.{None}
use Rattle.std.specs.FinMap.{insert, from_entries}
use Rattle.schema.specs.Schema.{Tables, AreTables, fault_of}
use Rattle.schema.proofs.SchemaLemmas.{one_added, tables_added}
use Rattle.schema.proofs.schema.Schema.add.Goals as goal

pub returns-clause-added : goal.returns-clause-added
returns-clause-added g c = one_added c.self.inside.widths.entries c.insert.new.self.entries c.args.table c.args.width c.in_ok-insert.ensures.updates.0
    ∙ ap (λ (tables : Tables). insert tables c.args.table c.args.width) c.self.view_is

pub invariant_of-self-2 : goal.invariant_of-self-2
invariant_of-self-2 g c =
    let before : Tables = from_entries c.self.inside.widths.entries in
    let none : fault_of c.args.self.now c.args.table c.args.width ≡ None = search rules in
    let known : AreTables before = c.self.invariant in
    let added = one_added c.self.inside.widths.entries c.insert.new.self.entries c.args.table c.args.width c.in_ok-insert.ensures.updates.0 in
    subst AreTables (sym added) (tables_added before c.args.table c.args.width known (rw c.self.view_is none))

pub returns-clause-tables : goal.returns-clause-tables
returns-clause-tables g c = invariant_of-self-2 g c
