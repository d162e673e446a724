use Rattle.std.proofs.Common.{refl}
use Rattle.bpf_vm.proofs.Following.{has_begun}
use Rattle.bpf_vm.proofs.machine.Machine.start.Goals as goal

pub returns-clause-starts : goal.returns-clause-starts
returns-clause-starts g c rows = has_begun c.args.procedure.now c.args.args.now rows _ (record { program = c.known.ensures.program; tables = c.known.ensures.tables; accepted = c.known.ensures.accepted }) (c.start.ensures rows) refl
