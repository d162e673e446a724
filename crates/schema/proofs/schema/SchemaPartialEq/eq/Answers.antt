use Rattle.std.proofs.Common.{◌≡◌, ◌∙◌, sym, false, length, arith, nat_eq}
use Rattle.std.specs.Prelude.{◌≢◌}
use Rattle.std.proofs.lemmas.Bool.Decides.{nat_tests}
use Rattle.schema.specs.Schema.{tables_eq}
use Rattle.schema.proofs.EqualLemmas.{exactly_one_schema, tables_eq-from_entries, other_lengths}
use Rattle.schema.proofs.schema.SchemaPartialEq.eq.Goals as goal

pub returns-then-len-clause-test : goal.returns-then-len-clause-test
returns-then-len-clause-test g c = c.eq.ensures
    ∙ sym (tables_eq-from_entries c.self.inside.widths.entries c.other.inside.widths.entries c.len.ensures.ordered c.len-2.ensures.ordered)
    ∙ (λ i. tables_eq (c.self.view_is i) (c.other.view_is i))

pub returns-then-len-clause-exact : goal.returns-then-len-clause-exact
returns-then-len-clause-exact g c = exactly_one_schema _ _ _ (returns-then-len-clause-test g c)

pub returns-else-len-clause-test : goal.returns-else-len-clause-test
returns-else-len-clause-test g c =
    let apart : length c.self.inside.widths.entries ≢ length c.other.inside.widths.entries = λ same. grind (arith, nat_tests) in
    let unequal : nat_eq c.len.result c.len-2.result ≡ false = grind (arith, nat_tests) in
    unequal ∙ sym (other_lengths c.self.inside.widths.entries c.other.inside.widths.entries c.len.ensures.ordered c.len-2.ensures.ordered apart)
    ∙ (λ i. tables_eq (c.self.view_is i) (c.other.view_is i))

pub returns-else-len-clause-exact : goal.returns-else-len-clause-exact
returns-else-len-clause-exact g c = exactly_one_schema _ _ _ (returns-else-len-clause-test g c)
