use Rattle.std.proofs.Common.{[], sym, ap, refl, ◌∙◌, option_map}
use Rattle.log_entry.specs.Bytes.{entry_bytes}
use Rattle.log_entry.specs.Kind.{entry_of}
use Rattle.site.specs.SameBytes.{left_of}
use Rattle.site.proofs.BytesLemmas.{is_left_empty, are_same}
use Rattle.site.proofs.same_bytes.has_bytes.Goals as goal

pub returns-in-Some : goal.returns-in-Some
returns-in-Some g c =
    c.is_empty.ensures
    ∙ sym (ap (λ r. is_left_empty (option_map (λ x. x.now) r)) c.in-Some.is)
    ∙ are_same c.args.bytes.now (entry_bytes (entry_of c.args.entry.now)) (left_of c.append_entry.new.sink) (c.append_entry.ensures c.args.bytes.now [] refl)

pub returns-in-None : goal.returns-in-None
returns-in-None g c =
    sym (ap (λ r. is_left_empty (option_map (λ x. x.now) r)) c.in-None.is)
    ∙ are_same c.args.bytes.now (entry_bytes (entry_of c.args.entry.now)) (left_of c.append_entry.new.sink) (c.append_entry.ensures c.args.bytes.now [] refl)
