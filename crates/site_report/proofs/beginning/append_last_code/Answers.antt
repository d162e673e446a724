use Rattle.site_report.proofs.beginning.append_last_code.Goals as goal

pub returns : goal.returns
returns g c = g.met.S.ByteSink.together _ _ _ _ _ c.append.ensures (g.met.S.ByteSink.together _ _ _ _ _ c.append_code_field.ensures c.append-2.ensures)
