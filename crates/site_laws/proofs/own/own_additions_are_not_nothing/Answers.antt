use Rattle.site_model.specs.Order.{order_entries, sessions_after}
use Rattle.site_model.specs.Answer.{stored_as}
use Rattle.site_laws.proofs.OwnLemmas.{own_addition_stands}
use Rattle.site_laws.proofs.own.own_additions_are_not_nothing.Goals as goal

pub returns : goal.returns
returns c s order p program bytes cause few passes spelled fits submitted nothing =
    own_addition_stands s (sessions_after s order) (order_entries s order) p program bytes cause few passes spelled (c.entries_have_their_heads.ensures.additions (stored_as p program) fits) submitted nothing
