use Rattle.std.proofs.Common.{sym, ◌∙◌, None, slice_set, length, ◌<◌, arith}
use Rattle.std.proofs.lemmas.List.{get_or_default, length-set}
use Rattle.bpf_verify.proofs.FlowLemmas.{quiet_state, quiet_slot, both_sent}
use Rattle.bpf_verify.proofs.flow.visit.Goals as goal

pub returns-in_err-state-clause-sent : goal.returns-in_err-state-clause-sent
returns-in_err-state-clause-sent g c = λ _ j l m.
    quiet_state c.args.schema.now _ c.args.slot j _ _ _ l
    (get_or_default _ _ None _ c.requires.slot ∙ sym c.take.ensures.value ∙ c.in_err-state.was)

pub returns-in_err-instruction-clause-sent : goal.returns-in_err-instruction-clause-sent
returns-in_err-instruction-clause-sent g c = λ _ j l m.
    quiet_slot c.args.schema.now _ c.args.slot j _ _ _ l (sym c.at.ensures.instruction ∙ c.in_err-instruction.was)

pub returns-clause-sent : goal.returns-clause-sent
returns-clause-sent g c = λ _ j l m.
    let first : j < length (slice_set c.args.pending.now c.args.slot c.take.new.self) = omega (arith, length-set c.args.pending.now c.args.slot c.take.new.self) in
    let second : j < length c.send.new.pending = omega (arith, length-set c.args.pending.now c.args.slot c.take.new.self) in
    both_sent c.args.schema.now c.args.pending.now c.send.new.pending c.send-2.new.pending c.args.slot j _ _ c.take.new.self c.in_ok-instruction.instruction c.in_ok-state.state l
    (sym c.at.ensures.instruction ∙ c.in_ok-instruction.was)
    (get_or_default _ _ None _ c.requires.slot ∙ sym c.take.ensures.value ∙ c.in_ok-state.was)
    (rw (c.fall_through.ensures.slots, c.next_state.ensures) at (c.send.ensures j first))
    (rw (c.jump_of.ensures.slots, c.jump_state.ensures) at (c.send-2.ensures j second))
