use Rattle.site_model.specs.Order.{order_entries, sessions_after}
use Rattle.order_chains.proofs.RequestLemmas.{never_where_done}
use Rattle.order_chains.proofs.requests.requests_done_before_commit_no_more.Goals as goal

pub returns : goal.returns
returns c s order bytes call told reply done head commits =
    never_where_done s (sessions_after s order) (order_entries s order) bytes call told reply head done commits
