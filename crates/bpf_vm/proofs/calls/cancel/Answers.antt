use Rattle.std.proofs.Common.{ap}
use Rattle.bpf_vm.proofs.PartLemmas.{cancel_parts}
use Rattle.bpf_vm.proofs.CallLemmas.{done, cancel_done, no_more}
use Rattle.bpf_vm.proofs.calls.cancel.Goals as goal

pub returns-clause-follows : goal.returns-clause-follows
returns-clause-follows g c = λ tables s held view. done _ _ _ s _ _ _ (λ t e.
    let p = cancel_parts c.held_laws.ensures tables s c.args.words.now held t e in
    let (holds, seen) = cancel_done c.cancel.new.self.own c.held_laws.ensures c.args.words.now c.word.result p c.word.ensures (c.answer.ensures.held s held) (c.cancel.ensures.cancelled s view) in
    (holds, seen, no_more s t (ap (λ t. t.looks) p)))
