use Rattle.std.proofs.Common.{◌≡◌, ◌==◌, true, length, Ok, sym, ap, ◌∙◌, rules}
use Rattle.std.proofs.lemmas.Result.{err_from_is_err_and}
use Rattle.schema.specs.Schema.{schema_of}
use Rattle.script.specs.Settings.{has_only_tables}
use Rattle.script.proofs.TableLemmas.{with_table-refused, with_table-made}
use Rattle.script.proofs.table.add_table.Goals as goal

pub returns-clause-ok : goal.returns-clause-ok
returns-clause-ok g c =
    let none : has_only_tables c.args.catalogue.now ≡ true = search rules in
    with_table-made c.args.catalogue.now c.args.pairs.now.items c.in_ok-more.more.items c.args.table c.args.width c.in_ok-schema.schema c.requires c.in_ok-more.ensures none
    (ap schema_of (sym c.deref.ensures.value) ∙ c.in_ok-schema.ensures.ok) ∙ ap Ok (sym c.new.ensures)

pub returns-in_err-schema-clause-fault : goal.returns-in_err-schema-clause-fault
returns-in_err-schema-clause-fault g c =
    let none : has_only_tables c.args.catalogue.now ≡ true = search rules in
    let told =
    with_table-refused c.args.catalogue.now c.args.pairs.now.items c.in_ok-more.more.items c.deref.result.now c.args.table c.args.width c.in_err-schema.field-0.0 c.requires c.in_ok-more.ensures none c.deref.ensures.value c.in_err-schema.ensures.fault in
    let q = err_from_is_err_and c.from_residual-in_err-schema.result c.from_residual-in_err-schema.ensures.1 in
    rw (q.1, q.2) told
