use Rattle.std.proofs.Common.{List, ◌≡◌, subst}
use Rattle.std.specs.FinMap.{entries as map_entries}
use Rattle.std.specs.Prelude.{IfOk}
use Rattle.log_model.specs.Log.{Beginning}
use Rattle.log_model.specs.Entries.{Entry}
use Rattle.replica.specs.Replica.{StandsFor, rows_kept}
use Rattle.site.specs.Replica.{SiteReplica}
use Rattle.site.proofs.SiteLemmas.{rows_listed}
use Rattle.site.proofs.state.SiteReplica.rows.Goals as goal

pub returns : goal.returns
returns g c =
    rows_listed c.args.self.now (λ list. list.items) c.rows.result c.fit_entries_go_on.ensures.rows
    (subst (λ (x : SiteReplica). IfOk c.rows.result (λ list. (base : Beginning) (entries : List Entry) → StandsFor base x.replica entries → list.items ≡ map_entries (rows_kept x.replica.window base entries x.replica.position))) c.self.view_is c.rows.ensures)
