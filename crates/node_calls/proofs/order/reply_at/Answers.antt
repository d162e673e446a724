use Rattle.std.proofs.Common.{◌-◌, Some, ap, ◌∙◌, arith}
use Rattle.log_model.specs.Entries.{ExecutedCall}
use Rattle.log_entry.specs.declared.entry.Entry.{Entry as LogEntry}
use Rattle.node_calls.proofs.AnswerLemmas.{no_call}
use Rattle.node_calls.proofs.order.reply_at.Goals as goal

pub unreachable-requires : goal.unreachable-requires
unreachable-requires g c = no_call c.args.seen.now _ c.entry.result.now c.in-Addition.field-0 c.requires.call.0 c.entry.ensures c.in-Addition.is c.requires.call.1

pub returns : goal.returns
returns g c = record {
  before = c.args.position - 1;
  place = (let from = c.requires.from in omega arith);
  e = c.in-Call.call;
  stands = c.entry.ensures ∙ ap (λ (e : LogEntry g.row.P.Denot). Some e) c.in-Call.is;
  replied = ap (λ (e : ExecutedCall). e.reply) c.call.view_is;
}
