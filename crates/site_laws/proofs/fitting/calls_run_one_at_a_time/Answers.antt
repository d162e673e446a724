use Rattle.std.proofs.Common.{◌≡◌, [], subst}
use Rattle.std.proofs.lemmas.List.Elements.{All-nil}
use Rattle.schema.specs.Rows.{Rows}
use Rattle.site_model.specs.Order.{order_log}
use Rattle.site_laws.specs.Orders.{IsBytes, rows_behind}
use Rattle.site_laws.specs.Serial.{RunInTurn, committed_calls}
use Rattle.site_laws.proofs.SerialLemmas.{in_turn}
use Rattle.site_laws.proofs.fitting.calls_run_one_at_a_time.Goals as goal

pub returns : goal.returns
returns c s order is are =
    let none : rows_behind s [] ≡ s.setting.beginning.rows = c.rows_after_each_call.ensures.first s.setting (order_log s []) in
    subst (λ (rows : Rows). RunInTurn s.setting (order_log s order) rows (committed_calls s order) (rows_behind s order)) none
    (in_turn s c.rows_after_each_byte_string.ensures.committed c.rows_after_each_byte_string.ensures.others c.orders_grow.ensures.count c.what_stands_is_of_the_log.ensures.placed
    (λ o bytes. c.orders_of_bytes_fit.ensures s o is bytes) [] order (All-nil IsBytes) are)
