use Rattle.site_report.proofs.status.append_row_line.Goals as goal

pub returns : goal.returns
returns g c =
    g.met.S.ByteSink.together _ _ _ _ _ (g.met.S.ByteSink.together _ _ _ _ _ c.append_row_label.ensures c.append_digits.ensures) c.append.ensures
