use Rattle.std.proofs.Common.{◌≡◌, ◌∙◌, sym, ap, subst, Some}
use Rattle.bpf_code.specs.declared.instruction.Register.TheVariants.{R3}
use Rattle.bpf_semantics.specs.State.{register}
use Rattle.bpf_semantics.specs.Memory.{known_bytes}
use Rattle.bpf_semantics.specs.Helpers.{buffer_of, with_row_write}
use Rattle.vm_state.specs.Words.{IsWordOf}
use Rattle.txn_view.specs.View.{IsViewOf}
use Rattle.bpf_vm.proofs.PartLemmas.{put_parts}
use Rattle.bpf_vm.proofs.CallLemmas.{done, no_memory, write_done, no_more, put_table, put_room, one_width}
use Rattle.bpf_vm.proofs.rows.row_put.Goals as goal

pub named_table-table-requires : goal.named_table-table-requires
named_table-table-requires g c = put_table c.held_laws.ensures c.requires.can

pub buffer-bytes-requires : goal.buffer-bytes-requires
buffer-bytes-requires g c = put_room c.held_laws.ensures c.named_table-table.result.1 _ c.requires.can c.word.ensures c.named_table-table.ensures.width

pub returns-in-Ok-clause-follows : goal.returns-in-Ok-clause-follows
returns-in-Ok-clause-follows g c = λ s held view. done _ _ _ s _ _ _ (λ t e.
    let laws = c.held_laws.ensures in
    let p = put_parts laws c.args.schema.now s c.args.words.now held t e in
    let wide : c.named_table-table.result.1 ≡ p.width = one_width _ _ _ c.named_table-table.ensures.width p.has in
    let bytes : c.buffer-bytes.result.now ≡ p.bytes = c.buffer-bytes.ensures.known s (register s R3) p.buffer p.bytes held
    (subst (IsWordOf (register s R3)) (sym c.word.ensures) (laws.register s c.args.words.now R3 held))
    (ap (buffer_of (register s R3)) wide ∙ p.at) (ap (known_bytes s.stack p.buffer) wide ∙ p.known) in
    let view_after = c.in-Ok.ensures.written s view in
    let (holds, seen) = write_done c.put.new.self.own laws c.args.words.now c.named_table-table.result.0 c.word-key.result (Some p.bytes) p.after c.named_table-table.ensures.table c.word-key.ensures (c.answer.ensures.held s held)
    (subst (λ bytes. IsViewOf (g.S.Store.answers_from c.args.view.now.store) c.put.new.self.own (with_row_write c.named_table-table.result.0 c.word-key.result (Some bytes) s)) bytes view_after) in
    (holds, seen, no_more s t (ap (λ t. t.looks) p.after)))

pub returns-in-Err-clause-follows : goal.returns-in-Err-clause-follows
returns-in-Err-clause-follows g c = λ s held view. no_memory _ _ _ s _ _ _ (λ e. absurd (cc)) (λ t e.
    let p = put_parts c.held_laws.ensures c.args.schema.now s c.args.words.now held t e in
    no_more s t (ap (λ t. t.looks) p.after))
