use Rattle.std.proofs.Common.{◌∙◌, ◌*◌, ap, sym}
use Rattle.bpf_bytes.proofs.ProgramWhole.{length-spelling}
use Rattle.bpf_bytes.proofs.encoding.byte_length.Goals as goal

pub returns-clause-length : goal.returns-clause-length
returns-clause-length g c = ap (λ n. 8 * n) c.slots.ensures.count ∙ sym (length-spelling c.args.code.now c.slots.ensures.program.slots)
