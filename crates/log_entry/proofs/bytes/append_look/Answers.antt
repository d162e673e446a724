use Rattle.log_entry.proofs.bytes.append_look.Goals as goal

pub returns : goal.returns
returns g c = g.met.S.ByteSink.together _ _ _ _ _ (g.met.S.ByteSink.together _ _ _ _ _ c.append.ensures c.append_u64.ensures) c.append_u64-2.ensures
