use Rattle.std.proofs.Common.{rules, ◌≡◌, ℕ, List, ◌++◌, length, subst}
use Rattle.byteorder.specs.Endian.{little_bytes}
use Rattle.log_entry.specs.Bytes.{count_bytes, head_bytes}
use Rattle.log_entry.proofs.bytes.append_head.Goals as goal

pub returns : goal.returns
returns g c =
    let text : little_bytes 4 c.entry.inside.call ++ little_bytes 2 c.entry.inside.procedure ++ count_bytes (length c.as_slice.result.now) ++ c.as_slice-2.result.now ++ little_bytes 4 c.entry.inside.snapshot ++ little_bytes 8 c.entry.inside.reply ≡ head_bytes c.args.entry.now = search rules in
    subst (λ (bytes : List ℕ). g.S.ByteSink.appends c.args.sink.now c.append_u64.new.sink bytes) text
    (g.met.S.ByteSink.together _ _ _ _ _ (g.met.S.ByteSink.together _ _ _ _ _ (g.met.S.ByteSink.together _ _ _ _ _ (g.met.S.ByteSink.together _ _ _ _ _ (g.met.S.ByteSink.together _ _ _ _ _ c.append_u32.ensures c.append_u16.ensures) c.append_count.ensures) c.append.ensures) c.append_u32-2.ensures) c.append_u64.ensures)
