use Rattle.std.proofs.Common.{◌∙◌, sym, ap, ◌+◌}
use Rattle.bpf_vm.specs.Run.{own_effects}
use Rattle.bpf_vm.proofs.Following.{viewed, turn_after}
use Rattle.bpf_vm.proofs.machine.Machine.turn.Goals as goal

pub advance-requires : goal.advance-requires
advance-requires g c = c.requires (sym c.last.ensures ∙ c.in-More.is)

pub returns-in-More-clause-run : goal.returns-in-More-clause-run
returns-in-More-clause-run g c = λ args rows k suits answers h.
    let p = c.args.procedure.now in
    let view = viewed (g.S.Store.answers_from c.args.view.now.store) c.args.view.now.own h.here.state rows h.here.done answers (c.states_fit.ensures.rows p.program p.tables args rows k h.here.state h.here.at) in
    turn_after p args rows k (g.S.Store.answers_from c.args.view.now.store) (g.S.Store.is_gone c.args.view.now.store) c.args.self.now c.advance.new.self c.advance.new.view.own (own_effects c.args.view.now.own) c.advance.result h
    (c.accepted_programs_never_go_wrong.ensures.never_stuck p args rows (k + 1) h.here.sound.program h.here.sound.tables h.here.sound.accepted suits)
    (λ reply t e. c.runs_go_on_or_end.ensures.ended p args rows k reply h.here.state t h.here.sound suits h.here.at e)
    (c.advance.ensures.follows h.here.state h.here.held view) c.advance.ensures.last c.advance.ensures.words (λ nothing. ap (λ own. own_effects own) (c.advance.ensures.own nothing))

pub returns-in-More-clause-short : goal.returns-in-More-clause-short
returns-in-More-clause-short g c = λ args rows k suits h.
    c.runs_go_on_or_end.ensures.short c.args.procedure.now args rows k h.here.state h.here.sound suits h.here.at
