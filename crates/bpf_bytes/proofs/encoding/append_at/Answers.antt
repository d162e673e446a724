use Rattle.std.proofs.Common.{rules, ◌≡◌, ℕ, List, ◌++◌, subst}
use Rattle.bpf_bytes.specs.Spelling.{instruction_bytes, spelling_at}
use Rattle.bpf_bytes.proofs.encoding.append_at.Goals as goal

pub returns-in-Some-of_second_slot : goal.returns-in-Some-of_second_slot
unfolding instruction_bytes
returns-in-Some-of_second_slot g c =
    let text : c.to_bytes.result ++ c.to_bytes-in-Some-of_second_slot.result ≡ spelling_at c.args.begins = search rules in
    subst (λ (bytes : List ℕ). g.S.ByteSink.appends c.args.sink.now c.append-in-Some-of_second_slot.new.self bytes) text
    (g.met.S.ByteSink.together c.args.sink.now c.append.new.self c.append-in-Some-of_second_slot.new.self c.to_bytes.result c.to_bytes-in-Some-of_second_slot.result
    c.append.ensures c.append-in-Some-of_second_slot.ensures)
