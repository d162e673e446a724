use Rattle.std.proofs.Common.{◌∙◌, sym, ap, arith}
use Rattle.std.proofs.lemmas.Int.{ints, to_z-of_z}
use Rattle.bpf_semantics.specs.Step.{execute}
use Rattle.plain_runner.specs.State.{state_of}
use Rattle.plain_runner.proofs.step.Moment.execute.Goals as goal

pub returns-in-Load : goal.returns-in-Load
returns-in-Load g c = search (arith, ints, to_z-of_z, c.load.ensures c.args.schema.now)

pub returns-in-StoreRegister : goal.returns-in-StoreRegister
returns-in-StoreRegister g c = search (arith, ints, to_z-of_z, c.store_register.ensures c.args.schema.now)

pub returns-in-Branch : goal.returns-in-Branch
returns-in-Branch g c = search (arith, ints, to_z-of_z, c.branch-state.ensures c.args.schema.now)

pub returns-in-Arithmetic : goal.returns-in-Arithmetic
returns-in-Arithmetic g c = c.arithmetic.ensures c.args.schema.now ∙ ap (λ i. execute c.args.schema.now i (state_of c.args.state)) (sym c.in-Arithmetic.is)

pub returns-in-Negate : goal.returns-in-Negate
returns-in-Negate g c = c.negate.ensures c.args.schema.now ∙ ap (λ i. execute c.args.schema.now i (state_of c.args.state)) (sym c.in-Negate.is)

pub returns-in-MoveSignExtended : goal.returns-in-MoveSignExtended
returns-in-MoveSignExtended g c = c.move_sign_extended.ensures c.args.schema.now ∙ ap (λ i. execute c.args.schema.now i (state_of c.args.state)) (sym c.in-MoveSignExtended.is)

pub returns-in-End : goal.returns-in-End
returns-in-End g c = c.end.ensures c.args.schema.now ∙ ap (λ i. execute c.args.schema.now i (state_of c.args.state)) (sym c.in-End.is)

pub returns-in-Exit : goal.returns-in-Exit
returns-in-Exit g c = c.exit.ensures c.args.schema.now ∙ ap (λ i. execute c.args.schema.now i (state_of c.args.state)) (sym c.in-Exit.is)
