use Rattle.std.proofs.Common.{◌≡◌, List, ℕ, ◌++◌, subst}
use Rattle.byteorder.specs.Endian.{little_bytes}
use Rattle.log_entry.specs.Bytes.{request_bytes}
use Rattle.log_entry.proofs.bytes.append_request.Goals as goal

pub returns : goal.returns
returns g c =
    let text : little_bytes 4 c.session_of.result ++ little_bytes 4 c.sequence_of.result ≡ request_bytes c.args.request =
    λ i. little_bytes 4 (c.session_of.ensures i) ++ little_bytes 4 (c.sequence_of.ensures i) in
    subst (λ (bytes : List ℕ). g.S.ByteSink.appends c.args.sink.now c.append_u32-2.new.sink bytes) text
    (g.met.S.ByteSink.together _ _ _ _ _ c.append_u32.ensures c.append_u32-2.ensures)
