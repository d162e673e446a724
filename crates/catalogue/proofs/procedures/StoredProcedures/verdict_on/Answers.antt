use Rattle.std.proofs.Common.{◌≡◌, ◌∙◌, Bor, true, false, refl}
use Rattle.std.specs.Prelude.{Option, Some, None, is_some}
use Rattle.std.specs.Option.{option_copied}
use Rattle.catalogue.specs.Stored.{stored_procedures}
use Rattle.catalogue.proofs.StoredLemmas.{is_named, is_numbered, verdict_is}
use Rattle.catalogue.proofs.procedures.StoredProcedures.verdict_on.Goals as goal

some_copied : {X : Type 0} (o : Option (Bor X)) → is_some o ≡ is_some (option_copied o)
some_copied None = refl
some_copied (Some x) = refl

pub returns-then-is_some-2 : goal.returns-then-is_some-2
returns-then-is_some-2 g c = λ program args_len.
    verdict_is (stored_procedures c.args.self.now) (record { name = c.args.name.now; number = c.args.number; program = program; args_len = args_len }) false true
    (is_named c.args.name.now c.args.self.now c.by_name.result false c.is_some.result c.by_name.ensures c.is_some.ensures c.if-is_some.false)
    (is_numbered c.args.number c.args.self.now (option_copied c.by_number.result) true c.is_some-else-is_some.result c.by_number.ensures (c.is_some-else-is_some.ensures ∙ some_copied c.by_number.result) c.if-is_some-2.true)

pub returns-else-is_some-2 : goal.returns-else-is_some-2
returns-else-is_some-2 g c = λ program args_len.
    verdict_is (stored_procedures c.args.self.now) (record { name = c.args.name.now; number = c.args.number; program = program; args_len = args_len }) false false
    (is_named c.args.name.now c.args.self.now c.by_name.result false c.is_some.result c.by_name.ensures c.is_some.ensures c.if-is_some.false)
    (is_numbered c.args.number c.args.self.now (option_copied c.by_number.result) false c.is_some-else-is_some.result c.by_number.ensures (c.is_some-else-is_some.ensures ∙ some_copied c.by_number.result) c.if-is_some-2.false)
