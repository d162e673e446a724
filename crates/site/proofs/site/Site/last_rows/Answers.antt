use Rattle.std.proofs.Common.{◌≡◌, false, length, sym, ap, subst, ◌∙◌, arith}
use Rattle.std.specs.FinMap.{get}
use Rattle.schema.specs.Rows.{Key, Rows}
use Rattle.log_model.specs.Log.{rows_after}
use Rattle.log_model.specs.Entries.{items_of}
use Rattle.replica.specs.Replica.{Replica, StandsFor, rows_kept}
use Rattle.rows_mv.specs.Versions.{row_seen}
use Rattle.site_model.specs.Order.{order_entries}
use Rattle.site.specs.Replica.{SiteReplica, setting_of}
use Rattle.site.proofs.site.Site.last_rows.Goals as goal

pub returns-clause-answers : goal.returns-clause-answers
returns-clause-answers g c order stands =
    let s = c.args.self.now in
    let w = (setting_of s).setting in
    let entries = order_entries (setting_of s) order in
    let r = c.replica-replica.result.now in
    let same : r ≡ s.replica = c.replica-replica.ensures ∙ ap (λ (x : SiteReplica). x.replica) c.self.view_is in
    let delivered = subst (λ (x : Replica). StandsFor w.beginning x entries) (sym same) stands.log.stands.delivered in
    let here : c.position.result ≡ length entries = c.position.ensures ∙ delivered.position in
    subst (λ (rows : Rows). c.at.result.gone ≡ false → (k : Key) → row_seen c.at.result.versions.now.tables c.at.result.position k ≡ get rows k)
    (ap (λ (x : Replica). rows_kept x.window w.beginning entries c.position.result) same
    ∙ ap (rows_kept w.window w.beginning entries) here
    ∙ c.fit_entries_go_on.ensures.rows w entries (length entries) stands.log.of_log (omega arith)
    ∙ ap (rows_after w (items_of entries)) (c.orders_grow.ensures.count (setting_of s) order))
    (c.at.ensures.answers w.beginning entries delivered)
