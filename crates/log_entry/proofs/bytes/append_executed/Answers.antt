use Rattle.std.proofs.Common.{rules, ◌≡◌, ℕ, List, ◌++◌, subst}
use Rattle.log_entry.specs.Bytes.{head_bytes, looks_bytes, writes_bytes, executed_bytes}
use Rattle.log_entry.proofs.bytes.append_executed.Goals as goal

pub returns : goal.returns
returns g c =
    let text : head_bytes c.args.call.now ++ looks_bytes c.looks.result.now ++ writes_bytes c.call.inside.writes ≡ executed_bytes c.args.call.now = search rules in
    subst (λ (bytes : List ℕ). g.S.ByteSink.appends c.args.sink.now c.append_writes.new.sink bytes) text
    (g.met.S.ByteSink.together _ _ _ _ _ (g.met.S.ByteSink.together _ _ _ _ _ c.append_head.ensures c.append_looks.ensures) c.append_writes.ensures)
