use Rattle.std.proofs.Common.{◌∙◌, ◌+◌}
use Rattle.bpf_semantics.specs.State.{entry_state}
use Rattle.bpf_semantics.specs.Run.{run, run_of}
use Rattle.bpf_vm.proofs.Following.{some_of, next_is, has_short, has_ended}
use Rattle.bpf_vm.proofs.Advancing.{can_run_on}
use Rattle.bpf_vm.proofs.laws.runs_go_on_or_end.Goals as goal

pub returns-clause-short : goal.returns-clause-short
returns-clause-short c = λ p args rows k s sound suits e.
    let (r, is, (short, fits, after)) = some_of (run p.program p.tables args rows) _ (c.accepted_programs_never_go_wrong.ensures.run p args rows sound.program sound.tables sound.accepted suits) in
    has_short p args rows k s r (λ j. c.a_run_goes_on_to_its_length.ensures.after p.program p.tables args rows r j is) short e

pub returns-clause-ended : goal.returns-clause-ended
returns-clause-ended c = λ p args rows k reply s t sound suits e ends.
    let ended = next_is p.program p.tables k (entry_state args rows) s e ∙ ends in
    let is = c.a_run_ends_or_is_stuck.ensures.ended p.program p.tables args rows (k + 1) reply t ended in
    has_ended p args rows k reply s t is
    (λ j. c.a_run_goes_on_to_its_length.ensures.before p.program p.tables args rows (run_of rows reply t) j is)
    (λ j. c.a_run_goes_on_to_its_length.ensures.after p.program p.tables args rows (run_of rows reply t) j is)
    e ended

pub returns-clause-plain : goal.returns-clause-plain
returns-clause-plain c = λ p args rows k m effects suits h.
    can_run_on p args rows k m effects h
    (λ j. c.accepted_programs_never_go_wrong.ensures.never_stuck p args rows j h.here.sound.program h.here.sound.tables h.here.sound.accepted suits)
