use Rattle.std.proofs.Common.{◌≡◌, ◌∙◌, sym, ap, Ok, Err, rules}
use Rattle.bpf_semantics.specs.Helpers.{look_at, row_of, row_or_zeros}
use Rattle.txn_view.specs.Found.{row_found}
use Rattle.schema.specs.declared.or_no_memory.OrNoMemory.TheVariants as fault
use Rattle.txn_view.specs.Gone.{gone}
use Rattle.txn_view.specs.declared.view.Own.{Own}
use Rattle.bpf_vm.proofs.PartLemmas.{next_parts}
use Rattle.bpf_vm.proofs.CallLemmas.{done, stale, no_memory, next_done, next_looks, due_range, more_range, next_table, next_key_room, next_bytes, flag_map}
use Rattle.bpf_vm.proofs.ranges.range_next.Goals as goal

pub named_table-table-requires : goal.named_table-table-requires
named_table-table-requires g c = next_table c.held_laws.ensures c.requires.can

pub returns-in-Err-Fault-clause-follows : goal.returns-in-Err-Fault-clause-follows
returns-in-Err-Fault-clause-follows g c = λ s held view. stale _ _ _ s _ _ _ (λ t e.
    let p = next_parts c.held_laws.ensures c.args.schema.now s c.args.words.now held t e in
    let (last, looks) = next_looks _ _ _ c.named_table-table.ensures.table c.word-lo.ensures c.word-hi.ensures p in
    let refused : c.next_row.result ≡ Err (fault.Fault gone) = search rules in
    more_range s t _ _ _ last looks (c.next_row.ensures.gone.0 refused))

pub returns-in-Err-NoMemory-clause-follows : goal.returns-in-Err-NoMemory-clause-follows
returns-in-Err-NoMemory-clause-follows g c = λ s held view. no_memory _ _ _ s _ _ _ (λ e. absurd (cc)) (λ t e more.
    let p = next_parts c.held_laws.ensures c.args.schema.now s c.args.words.now held t e in
    let (last, looks) = next_looks _ _ _ c.named_table-table.ensures.table c.word-lo.ensures c.word-hi.ensures p in
    let refused : c.next_row.result ≡ Err fault.NoMemory = search rules in
    let due : c.next_row.result ≡ Err (fault.Fault gone) = c.next_row.ensures.gone.1 (due_range s t _ _ _ last looks more) in
    absurd (cc))

pub put_bytes-requires : goal.put_bytes-requires
put_bytes-requires g c = next_key_room c.held_laws.ensures c.key_or_zeros.result c.word-key_address.result c.requires.can c.word-key_address.ensures (search rules)

pub put_bytes-requires-2 : goal.put_bytes-requires-2
put_bytes-requires-2 g c = (next_bytes c.held_laws.ensures (look_at c.named_table-table.result.0 c.word-lo.result c.word-hi.result) c.named_table-table.result.1 c.word-row_address.result c.row_or_zeros.result.now (row_found c.named_table-table.result.0 c.in-Ok.found)
    c.first_is_least.ensures.found c.looks_cover_from_lo_to_hi.ensures.one c.requires.can c.named_table-table.ensures.table c.word-row_address.ensures c.named_table-table.ensures.width (c.row_or_zeros.ensures ∙ ap (row_or_zeros c.named_table-table.result.1) (c.row_of.ensures c.named_table-table.result.0)) c.in-Ok.ensures.found).0

pub returns-clause-follows : goal.returns-clause-follows
returns-clause-follows g c = λ s held view. done _ _ _ s _ _ _ (λ t e.
    let laws = c.held_laws.ensures in
    let p = next_parts laws c.args.schema.now s c.args.words.now held t e in
    let own : Own g.row.A.Denot = record { looks = c.next_row.new.looks; writes = c.args.view.now.own.writes; cancel_code = c.args.view.now.own.cancel_code } in
    let found = row_found c.named_table-table.result.0 c.in-Ok.found in
    let bytes_are : c.row_or_zeros.result.now ≡ row_or_zeros c.named_table-table.result.1 (row_of found) = (c.row_or_zeros.ensures ∙ ap (row_or_zeros c.named_table-table.result.1) (c.row_of.ensures c.named_table-table.result.0)) in
    let long = (next_bytes laws (look_at c.named_table-table.result.0 c.word-lo.result c.word-hi.result) c.named_table-table.result.1 c.word-row_address.result c.row_or_zeros.result.now found
    c.first_is_least.ensures.found c.looks_cover_from_lo_to_hi.ensures.one c.requires.can c.named_table-table.ensures.table c.word-row_address.ensures c.named_table-table.ensures.width bytes_are c.in-Ok.ensures.found).1 in
    let (holds, seen) = next_done own laws c.named_table-table.result.0 c.word-lo.result c.word-hi.result c.named_table-table.result.1 c.word-key_address.result c.word-row_address.result c.flag.result c.key_or_zeros.result c.row_or_zeros.result.now found p
    c.named_table-table.ensures.table c.word-lo.ensures c.word-hi.ensures c.word-key_address.ensures c.word-row_address.ensures c.named_table-table.ensures.width
    (c.in-Ok.ensures.found s view.read) (c.key_or_zeros.ensures c.named_table-table.result.0) (search rules) bytes_are long (c.flag.ensures ∙ sym (flag_map _ c.in-Ok.found)) held
    (λ v k. c.put_bytes.ensures.held s v k held) c.put_bytes-2.ensures.held c.answer.ensures.held (c.in-Ok.ensures.looked s view.read) view.cancelled in (
      holds,
      seen,
      λ more.
          let (last, looks) = next_looks _ _ _ c.named_table-table.ensures.table c.word-lo.ensures c.word-hi.ensures p in
          let due : c.next_row.result ≡ Err (fault.Fault gone) = c.next_row.ensures.gone.1 (due_range s t _ _ _ last looks more) in
          let ok : c.next_row.result ≡ Ok c.in-Ok.found = c.in-Ok.is in
          absurd (cc),
    ))
