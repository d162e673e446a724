use Rattle.std.proofs.Common.{◌≡◌, Ok, Err, rules}
use Rattle.schema.specs.declared.or_no_memory.OrNoMemory.TheVariants as fault
use Rattle.txn_view.specs.Gone.{gone}
use Rattle.txn_view.specs.declared.view.Own.{Own}
use Rattle.bpf_vm.proofs.PartLemmas.{count_parts}
use Rattle.bpf_vm.proofs.CallLemmas.{done, stale, no_memory, count_done, count_looks, due_range, more_range, count_table}
use Rattle.bpf_vm.proofs.ranges.range_count.Goals as goal

pub named_table-table-requires : goal.named_table-table-requires
named_table-table-requires g c = count_table c.held_laws.ensures c.requires.can

pub returns-in-Err-Fault-clause-follows : goal.returns-in-Err-Fault-clause-follows
returns-in-Err-Fault-clause-follows g c = λ s held view. stale _ _ _ s _ _ _ (λ t e.
    let p = count_parts c.held_laws.ensures c.args.schema.now s c.args.words.now held t e in
    let refused : c.count_rows.result ≡ Err (fault.Fault gone) = search rules in
    more_range s t _ _ _ _ (count_looks _ _ _ c.named_table-table.ensures.table c.word-lo.ensures c.word-hi.ensures p) (c.count_rows.ensures.gone.0 refused))

pub returns-in-Err-NoMemory-clause-follows : goal.returns-in-Err-NoMemory-clause-follows
returns-in-Err-NoMemory-clause-follows g c = λ s held view. no_memory _ _ _ s _ _ _ (λ e. absurd (cc)) (λ t e more.
    let p = count_parts c.held_laws.ensures c.args.schema.now s c.args.words.now held t e in
    let refused : c.count_rows.result ≡ Err fault.NoMemory = search rules in
    let due : c.count_rows.result ≡ Err (fault.Fault gone) = c.count_rows.ensures.gone.1 (due_range s t _ _ _ _ (count_looks _ _ _ c.named_table-table.ensures.table c.word-lo.ensures c.word-hi.ensures p) more) in
    absurd (cc))

pub returns-clause-follows : goal.returns-clause-follows
returns-clause-follows g c = λ s held view. done _ _ _ s _ _ _ (λ t e.
    let laws = c.held_laws.ensures in
    let p = count_parts laws c.args.schema.now s c.args.words.now held t e in
    let own : Own g.row.A.Denot = record { looks = c.count_rows.new.looks; writes = c.args.view.now.own.writes; cancel_code = c.args.view.now.own.cancel_code } in
    let (holds, seen) = count_done own laws c.named_table-table.result.0 c.word-lo.result c.word-hi.result c.in-Ok.count p
    c.named_table-table.ensures.table c.word-lo.ensures c.word-hi.ensures (c.in-Ok.ensures.counted s view.read) (c.answer.ensures.held s held) (c.in-Ok.ensures.looked s view.read) view.cancelled in (
      holds,
      seen,
      λ more.
          let due : c.count_rows.result ≡ Err (fault.Fault gone) = c.count_rows.ensures.gone.1 (due_range s t _ _ _ _ (count_looks _ _ _ c.named_table-table.ensures.table c.word-lo.ensures c.word-hi.ensures p) more) in
          let ok : c.count_rows.result ≡ Ok c.in-Ok.count = c.in-Ok.is in
          absurd (cc),
    ))
