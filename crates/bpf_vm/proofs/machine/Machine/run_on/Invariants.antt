use Rattle.std.proofs.Common.{◌≡◌, ◌≤◌}
use Rattle.bpf_vm.specs.Run.{own_effects}
use Rattle.bpf_vm.proofs.Advancing.{IsFurther}
use Rattle.bpf_vm.proofs.machine.Machine.run_on.Given as goal

abbrev pub invariant-loop : goal.invariant-loop
invariant-loop g l = record {
  store : l.view.store ≡ l.fn.view.store;
  count : l.counter ≤ l.before;
  further : IsFurther l.procedure (g.S.Store.answers_from l.fn.view.store) (g.S.Store.is_gone l.fn.view.store) l.before l.fn.self (own_effects l.fn.view.own) l.self (own_effects l.view.own);
}
