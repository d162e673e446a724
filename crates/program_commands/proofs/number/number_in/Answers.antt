use Rattle.std.proofs.Common.{◌≡◌, ◌∙◌, ◌==◌, ap, false, rules}
use Rattle.std.specs.Prelude.{slice_index}
use Rattle.program_commands.specs.Number.{has_leading_zero, within}
use Rattle.program_commands.proofs.NumberLemmas.{read_is_number, unread_is_none}
use Rattle.program_commands.proofs.number.number_in.Goals as goal

pub returns-in-Ok-clause-number : goal.returns-in-Ok-clause-number
returns-in-Ok-clause-number c =
    let plus : (slice_index c.args.text.now 0 == 43) ≡ false = search rules in
    let zero : has_leading_zero c.args.text.now ≡ false = search rules in
    c.within.ensures.number ∙ ap (within c.args.lo c.args.hi) (read_is_number c.args.text.now c.in-Ok.number plus zero c.in-Ok.ensures.value.0)

pub returns-in-Err-clause-number : goal.returns-in-Err-clause-number
returns-in-Err-clause-number c =
    let plus : (slice_index c.args.text.now 0 == 43) ≡ false = search rules in
    let zero : has_leading_zero c.args.text.now ≡ false = search rules in
    unread_is_none c.args.lo c.args.hi c.args.text.now c.ranges.hi.fits plus zero c.in-Err.ensures.value.0
