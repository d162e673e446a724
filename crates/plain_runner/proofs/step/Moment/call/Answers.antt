use Rattle.std.proofs.Common.{◌∙◌, sym, ap, option_map, arith}
use Rattle.bpf_semantics.proofs.StepLemmas.{bound, called_place}
use Rattle.plain_runner.specs.State.{state_of}
use Rattle.plain_runner.proofs.step.Moment.call.Goals as goal

-- a helper leaves slot and count
pub past-requires-clause-slot : goal.past-requires-clause-slot
past-requires-clause-slot g c =
    let h = bound _ _ (state_of c.in-Some.next) (sym c.in_ok-next.ensures ∙ ap (option_map state_of) c.in-Some.is) in
    let same = called_place c.args.schema.now h.0 (state_of c.args.state) (state_of c.in-Some.next) h.2 in
    omega (arith, same.slot)

pub past-requires-clause-steps : goal.past-requires-clause-steps
past-requires-clause-steps g c =
    let h = bound _ _ (state_of c.in-Some.next) (sym c.in_ok-next.ensures ∙ ap (option_map state_of) c.in-Some.is) in
    let same = called_place c.args.schema.now h.0 (state_of c.args.state) (state_of c.in-Some.next) h.2 in
    omega (arith, same.steps)
