use Rattle.site_report.proofs.beginning.append_last_field.Goals as goal

pub returns : goal.returns
returns g c = g.met.S.ByteSink.together _ _ _ _ _ c.append.ensures (g.met.S.ByteSink.together _ _ _ _ _ c.append_hex_field.ensures c.append-2.ensures)
