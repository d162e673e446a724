use Rattle.bpf_vm.proofs.machine.Machine.advance.Goals as goal

pub step-self-inside-requires : goal.step-self-inside-requires
step-self-inside-requires g c = rw (← c.self.view_is) at c.requires
