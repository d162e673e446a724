use Rattle.std.proofs.Common.{ap, None}
use Rattle.bpf_vm.proofs.PartLemmas.{delete_parts}
use Rattle.bpf_vm.proofs.CallLemmas.{done, no_memory, write_done, no_more, delete_table}
use Rattle.bpf_vm.proofs.rows.row_delete.Goals as goal

pub named_table-table-requires : goal.named_table-table-requires
named_table-table-requires g c = delete_table c.held_laws.ensures c.requires.can

pub returns-in-Ok-clause-follows : goal.returns-in-Ok-clause-follows
returns-in-Ok-clause-follows g c = λ s held view. done _ _ _ s _ _ _ (λ t e.
    let p = delete_parts c.held_laws.ensures c.args.schema.now s c.args.words.now held t e in
    let (holds, seen) = write_done c.remove.new.self.own c.held_laws.ensures c.args.words.now c.named_table-table.result.0 c.word-key.result None p.after c.named_table-table.ensures.table c.word-key.ensures (c.answer.ensures.held s held) (c.in-Ok.ensures.written s view) in
    (holds, seen, no_more s t (ap (λ t. t.looks) p.after)))

pub returns-in-Err-clause-follows : goal.returns-in-Err-clause-follows
returns-in-Err-clause-follows g c = λ s held view. no_memory _ _ _ s _ _ _ (λ e. absurd (cc)) (λ t e.
    let p = delete_parts c.held_laws.ensures c.args.schema.now s c.args.words.now held t e in
    no_more s t (ap (λ t. t.looks) p.after))
