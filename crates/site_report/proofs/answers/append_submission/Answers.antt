use Rattle.site_report.proofs.answers.append_submission.Goals as goal

pub returns : goal.returns
returns g c =
    g.met.S.ByteSink.together _ _ _ _ _ c.append.ensures (g.met.S.ByteSink.together _ _ _ _ _ c.append_entry_digits.ensures c.append-2.ensures)
