use Rattle.std.proofs.Common.{◌≡◌, sym, ap, subst}
use Rattle.vm_state.specs.Words.{Words, Holds}
use Rattle.vm_state.specs.Plain.{CanRunOn, Reaches}
use Rattle.bpf_vm.specs.Turns.{MachineState}
use Rattle.bpf_vm.proofs.Advancing.{never_stuck, reached, none_is_stale}
use Rattle.bpf_vm.proofs.machine.Machine.run_plain.Goals as goal

pub run_plain-requires-clause-can : goal.run_plain-requires-clause-can
run_plain-requires-clause-can g c =
    let words : c.args.self.now.words ≡ c.self.inside.words = ap (λ (m : MachineState). m.words) (sym c.self.view_is) in
    rw c.code.ensures (subst (λ (m : Words). CanRunOn c.args.procedure.now.program m) words c.requires)

pub returns-clause-run : goal.returns-clause-run
returns-clause-run g c = λ args rows k effects suits h.
    let p = c.args.procedure.now in
    let s = h.here.state in
    let n : MachineState = record { words = c.run_plain.new.self; last = c.self.inside.last } in
    let words : c.args.self.now.words ≡ c.self.inside.words = ap (λ (m : MachineState). m.words) (sym c.self.view_is) in
    let held : Holds s c.self.inside.words = subst (λ (m : Words). Holds s m) words h.here.held in
    let never = never_stuck p args rows k s h.here.at
    (λ j. c.accepted_programs_never_go_wrong.ensures.never_stuck p args rows j h.here.sound.program h.here.sound.tables h.here.sound.accepted suits) in
    let reaches : Reaches p.program p.tables s c.run_plain.result c.run_plain.new.self = (rw c.code.ensures at c.run_plain.ensures.reaches) p.tables s held never in (
      reached p args rows k c.run_plain.result c.args.self.now n effects h reaches (ap (λ (m : MachineState). m.last) c.self.view_is),
      λ gone. none_is_stale p args rows gone k c.run_plain.result s reaches.0 h.here.at reaches.1 reaches.3.looks,
    )
