use Rattle.std.proofs.Common.{◌+◌}
use Rattle.bpf_vm.proofs.Following.{can_step}
use Rattle.bpf_vm.proofs.laws.open_calls_can_turn.Goals as goal

pub returns : goal.returns
returns g c = λ p args rows k m suits answers h last.
    can_step p args rows k _ m c.args.view.now.own answers h
    (c.accepted_programs_never_go_wrong.ensures.never_stuck p args rows (k + 1) h.here.sound.program h.here.sound.tables h.here.sound.accepted suits)
    (c.states_fit.ensures.rows p.program p.tables args rows k h.here.state h.here.at)
    (c.states_fit.ensures.going p.program p.tables args rows k h.here.state h.here.sound.program suits.bytes suits.of_schema h.here.at).rows
