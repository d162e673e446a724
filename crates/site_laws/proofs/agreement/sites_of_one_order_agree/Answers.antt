use Rattle.std.proofs.Common.{◌≤◌, [], length, ap, ◌∙◌, arith}
use Rattle.std.proofs.lemmas.List.{length-map}
use Rattle.log_model.specs.Log.{Log, procedures_after, rows_after}
use Rattle.log_model.specs.Entries.{item_of}
use Rattle.site_model.specs.Order.{order_entries, order_log}
use Rattle.site_laws.proofs.AgreementLemmas.{answered_alike}
use Rattle.site_laws.proofs.SerialLemmas.{log_beginning}
use Rattle.site_laws.proofs.agreement.sites_of_one_order_agree.Goals as goal

pub returns-clause-answers : goal.returns-clause-answers
returns-clause-answers c s order more = answered_alike s [] order more

pub returns-clause-rows : goal.returns-clause-rows
returns-clause-rows c s order more =
    let (later, goes) = log_beginning s order more in
    let within : length order ≤ length (order_log s order) = omega (arith, length-map (order_entries s order) item_of, c.orders_grow.ensures.count s order) in
    ap (λ (l : Log). rows_after s.setting l (length order)) goes ∙ c.a_log_only_grows.ensures.rows s.setting (order_log s order) later (length order) within

pub returns-clause-procedures : goal.returns-clause-procedures
returns-clause-procedures c s order more =
    let (later, goes) = log_beginning s order more in
    let within : length order ≤ length (order_log s order) = omega (arith, length-map (order_entries s order) item_of, c.orders_grow.ensures.count s order) in
    ap (λ (l : Log). procedures_after s.setting l (length order)) goes ∙ c.a_log_only_grows.ensures.procedures s.setting (order_log s order) later (length order) within
