use Rattle.std.proofs.Common.{rules, FitsSigned, refl}
use Rattle.std.specs.Int.{w32}
use Rattle.std.proofs.lemmas.Int.{to_z-of_z}
use Rattle.bpf_code.specs.declared.instruction.Register.TheVariants.{R0}
use Rattle.bpf_vm.proofs.Stepping.{exit_follows, plain_follows}
use Rattle.bpf_vm.proofs.step.execute.Goals as goal

pub call-requires-clause-can : goal.call-requires-clause-can
call-requires-clause-can g c =
    let fits : FitsSigned w32 c.in-Call.helper = search rules in
    simp to_z-of_z (rw c.in-Call.is at c.requires.can)

pub returns-in-Exit-clause-follows : goal.returns-in-Exit-clause-follows
returns-in-Exit-clause-follows g c = λ s h v.
    rw (c.in-Exit.is, c.word.ensures)
    (exit_follows c.args.schema.now (g.S.Store.answers_from c.args.view.now.store) (g.S.Store.is_gone c.args.view.now.store) s c.args.words.now c.args.view.now.own h v (c.registers_are_held.ensures.register s c.args.words.now R0 h))

pub returns-in_default : goal.returns-in_default
returns-in_default g c = record {
  follows = λ s h v. plain_follows c.args.schema.now (g.S.Store.answers_from c.args.view.now.store) (g.S.Store.is_gone c.args.view.now.store) s c.args.instruction c.execute.new.self c.args.view.now.own
      c.in_default.not-Call v (c.execute.ensures c.args.schema.now s h);
  words = λ refused. absurd refused;
  own = λ refused. absurd refused;
  store = refl;
}
