use Rattle.std.proofs.Common.{◌++◌, ◌∷◌}
use Rattle.site_laws.proofs.fitting.what_was_told_settles_every_order.Goals as goal

pub returns-clause-answered : goal.returns-clause-answered
returns-clause-answered c s order more bytes asked call told reply is are =
    c.what_was_answered_commits_no_more.ensures s order more bytes asked call told reply (c.orders_of_bytes_fit.ensures s order is are)

pub returns-clause-conflict : goal.returns-clause-conflict
returns-clause-conflict c s order between first second a b told other position reply is are =
    c.what_was_refused_commits_no_more.ensures.conflict s order between first second a b told other position reply (c.orders_of_bytes_fit.ensures s (order ++ first ∷ between) is are)

pub returns-clause-stale : goal.returns-clause-stale
returns-clause-stale c = c.what_was_refused_commits_no_more.ensures.stale
