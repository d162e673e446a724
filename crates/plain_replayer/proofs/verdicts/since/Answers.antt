use Rattle.std.proofs.Common.{◌∙◌, sym, ap, ℕ, map, drop}
use Rattle.std.proofs.lemmas.List.{drop-map}
use Rattle.plain_replayer.specs.Replay.{certified_of}
use Rattle.plain_replayer.proofs.CertifyLemmas.{drop_min}
use Rattle.plain_replayer.proofs.verdicts.since.Goals as goal

pub returns-clause-later : goal.returns-clause-later
returns-clause-later g c =
    c.split_at.ensures.back
    ∙ ap (λ (n : ℕ). drop n c.args.past.now) c.min.ensures
    ∙ drop_min c.args.position c.args.past.now

pub returns-clause-certified : goal.returns-clause-certified
returns-clause-certified g c =
    ap (map certified_of) (returns-clause-later g c)
    ∙ sym (drop-map certified_of c.args.position c.args.past.now)
