use Rattle.std.proofs.Common.{◌≡◌, ◌∙◌, sym, Ok, Err, option_map, rules}
use Rattle.schema.specs.declared.or_no_memory.OrNoMemory.TheVariants as fault
use Rattle.txn_view.specs.Gone.{gone}
use Rattle.txn_view.specs.declared.view.Own.{Own}
use Rattle.bpf_vm.proofs.PartLemmas.{get_parts}
use Rattle.bpf_vm.proofs.CallLemmas.{done, stale, no_memory, get_done, get_looks, due_point, more_point, get_table, get_bytes, flag_map}
use Rattle.bpf_vm.proofs.rows.row_get.Goals as goal

pub named_table-table-requires : goal.named_table-table-requires
named_table-table-requires g c = get_table c.held_laws.ensures c.requires.can

pub returns-in-Err-Fault-clause-follows : goal.returns-in-Err-Fault-clause-follows
returns-in-Err-Fault-clause-follows g c = λ s held view. stale _ _ _ s _ _ _ (λ t e.
    let p = get_parts c.held_laws.ensures c.args.schema.now s c.args.words.now held t e in
    let refused : c.read_row.result ≡ Err (fault.Fault gone) = search rules in
    more_point s t c.args.view.now.own.writes _ _ view.read.writes_are (get_looks _ _ c.named_table-table.ensures.table c.word-key.ensures p) (c.read_row.ensures.gone.0 refused))

pub returns-in-Err-NoMemory-clause-follows : goal.returns-in-Err-NoMemory-clause-follows
returns-in-Err-NoMemory-clause-follows g c = λ s held view. no_memory _ _ _ s _ _ _ (λ e. absurd (cc)) (λ t e more.
    let p = get_parts c.held_laws.ensures c.args.schema.now s c.args.words.now held t e in
    let refused : c.read_row.result ≡ Err fault.NoMemory = search rules in
    let due : c.read_row.result ≡ Err (fault.Fault gone) = c.read_row.ensures.gone.1 (due_point s t c.args.view.now.own.writes _ _ view.read.writes_are (get_looks _ _ c.named_table-table.ensures.table c.word-key.ensures p) more) in
    absurd (cc))

pub put_bytes-requires : goal.put_bytes-requires
put_bytes-requires g c = (get_bytes c.held_laws.ensures c.named_table-table.result.0 c.word-key.result c.named_table-table.result.1 c.word-address.result c.row_or_zeros.result.now (option_map (λ row. row.now) c.in-Ok.found)
    c.requires.can c.named_table-table.ensures.table c.word-address.ensures c.named_table-table.ensures.width c.row_or_zeros.ensures c.in-Ok.ensures.found).0

pub returns-clause-follows : goal.returns-clause-follows
returns-clause-follows g c = λ s held view. done _ _ _ s _ _ _ (λ t e.
    let laws = c.held_laws.ensures in
    let p = get_parts laws c.args.schema.now s c.args.words.now held t e in
    let own : Own g.row.A.Denot = record { looks = c.read_row.new.looks; writes = c.args.view.now.own.writes; cancel_code = c.args.view.now.own.cancel_code } in
    let long = (get_bytes laws c.named_table-table.result.0 c.word-key.result c.named_table-table.result.1 c.word-address.result c.row_or_zeros.result.now (option_map (λ row. row.now) c.in-Ok.found)
    c.requires.can c.named_table-table.ensures.table c.word-address.ensures c.named_table-table.ensures.width c.row_or_zeros.ensures c.in-Ok.ensures.found).1 in
    let (holds, seen) = get_done own laws c.named_table-table.result.0 c.word-key.result c.named_table-table.result.1 c.word-address.result c.flag.result c.row_or_zeros.result.now (option_map (λ row. row.now) c.in-Ok.found) p
    c.named_table-table.ensures.table c.word-key.ensures c.word-address.ensures c.named_table-table.ensures.width
    (c.in-Ok.ensures.found s view.read) c.row_or_zeros.ensures long (c.flag.ensures ∙ sym (flag_map (λ row. row.now) c.in-Ok.found)) held
    (λ v k. c.put_bytes.ensures.held s v k held) c.answer.ensures.held (c.in-Ok.ensures.looked s view.read) view.cancelled in (
      holds,
      seen,
      λ more.
          let due : c.read_row.result ≡ Err (fault.Fault gone) = c.read_row.ensures.gone.1 (due_point s t c.args.view.now.own.writes _ _ view.read.writes_are (get_looks _ _ c.named_table-table.ensures.table c.word-key.ensures p) more) in
          let ok : c.read_row.result ≡ Ok c.in-Ok.found = c.in-Ok.is in
          absurd (cc),
    ))
