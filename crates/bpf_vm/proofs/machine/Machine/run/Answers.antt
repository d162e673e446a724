use Rattle.std.proofs.Common.{◌+◌, arith}
use Rattle.bpf_vm.proofs.machine.Machine.run.Goals as goal

pub returns-clause-run : goal.returns-clause-run
returns-clause-run g c = λ args rows k suits answers run.
    let after = c.run_counted.ensures.run args rows k suits answers run in
    (k + c.run_counted.result.before, omega arith, after.0, after.2)
