use Rattle.std.proofs.Common.{rules, ◌≡◌, ℕ, List, [], ◌∷◌, ◌++◌, ◌%◌, length, subst}
use Rattle.byteorder.specs.Endian.{little_bytes}
use Rattle.bpf_bytes.specs.Spelling.{spelling}
use Rattle.catalogue.specs.Stored.{stored}
use Rattle.log_entry.specs.Bytes.{addition_bytes}
use Rattle.log_entry.proofs.bytes.append_addition.Goals as goal

pub returns : goal.returns
returns g c =
    let text : (2 ∷ []) ++ little_bytes 2 c.procedure.inside.number ++ little_bytes 2 c.args_len.result ++ (length c.as_slice-name.result.now % 256 ∷ []) ++ c.as_slice-name.result.now ++ little_bytes 4 c.byte_length.result ++ spelling c.code-code.result.now ≡ addition_bytes (stored c.args.procedure.now) = search rules in
    subst (λ (bytes : List ℕ). g.S.ByteSink.appends c.args.sink.now c.append_program.new.sink bytes) text
    (g.met.S.ByteSink.together _ _ _ _ _ (g.met.S.ByteSink.together _ _ _ _ _ (g.met.S.ByteSink.together _ _ _ _ _ (g.met.S.ByteSink.together _ _ _ _ _ (g.met.S.ByteSink.together _ _ _ _ _ (g.met.S.ByteSink.together _ _ _ _ _ c.append.ensures c.append_u16.ensures) c.append_u16-2.ensures) c.append-2.ensures) c.append-3.ensures) c.append_u32.ensures) c.append_program.ensures)
