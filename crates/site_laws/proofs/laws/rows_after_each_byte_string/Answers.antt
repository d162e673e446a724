use Rattle.std.proofs.Common.{◌≡◌, ℕ, suc, List, [], ◌∷◌, ◌++◌, length, sym, subst, refl}
use Rattle.log_model.specs.Log.{IsLog, rows_after, run_on}
use Rattle.log_model.specs.Entries.{Entry, items_of}
use Rattle.site_model.specs.Fit.{AreFitEntries}
use Rattle.site_model.specs.Standing.{standing}
use Rattle.site_model.specs.Order.{order_entries, order_log, sessions_after, with_bytes}
use Rattle.site_laws.proofs.LogLemmas.{rows_committed, reply_committed, rows_others}
use Rattle.site_laws.proofs.laws.rows_after_each_byte_string.Goals as goal

pub returns-clause-committed : goal.returns-clause-committed
returns-clause-committed c s order bytes e reply are is told =
    let es = order_entries s order in
    let known = sessions_after s order in
    let next = c.orders_grow.ensures.next s order bytes in
    let count = c.orders_grow.ensures.count s order in
    let inner = subst (λ (xs : List Entry). AreFitEntries s.setting xs) next are in
    let rows = rows_committed s known es bytes c.each_call_has_a_verdict.ensures.within c.a_log_only_grows.ensures.rows c.rows_after_each_call.ensures.next e reply inner.log is told in
    let told_reply = reply_committed s known es bytes c.each_call_has_a_verdict.ensures.within c.a_log_only_grows.ensures.rows c.logs_whose_calls_fit.ensures.runs c.entries_carry_serial_replies.ensures.carried e reply inner is told in
    record {
      rows = subst (λ (xs : List Entry). rows_after s.setting (items_of xs) (suc (length order)) ≡ (run_on s.setting (items_of xs) e.call (rows_after s.setting (order_log s order) (length order))).effect) (sym next)
          (subst (λ (n : ℕ). rows_after s.setting (items_of (with_bytes s known es bytes)) (suc n) ≡ (run_on s.setting (items_of (with_bytes s known es bytes)) e.call (rows_after s.setting (order_log s order) n)).effect) count rows);
      reply_is = subst (λ (xs : List Entry). reply ≡ (run_on s.setting (items_of xs) e.call (rows_after s.setting (order_log s order) (length order))).reply) (sym next)
          (subst (λ (n : ℕ). reply ≡ (run_on s.setting (items_of (with_bytes s known es bytes)) e.call (rows_after s.setting (order_log s order) n)).reply) count told_reply);
    }

pub returns-clause-others : goal.returns-clause-others
returns-clause-others c s order bytes never =
    let es = order_entries s order in
    let known = sessions_after s order in
    let next = c.orders_grow.ensures.next s order bytes in
    let count = c.orders_grow.ensures.count s order in
    let log : IsLog (items_of (with_bytes s known es bytes)) = subst (λ (xs : List Entry). IsLog (items_of xs)) next (c.orders_have_logs.ensures s (order ++ bytes ∷ [])) in
    let rows = rows_others s known es bytes c.each_call_has_a_verdict.ensures.within c.a_log_only_grows.ensures.rows c.a_log_only_grows.ensures.procedures c.rows_after_each_call.ensures.next c.rows_after_each_call.ensures.addition c.what_stands_is_of_the_log.ensures.placed log never
    (standing s known (items_of es) bytes) refl in
    subst (λ (xs : List Entry). rows_after s.setting (items_of xs) (suc (length order)) ≡ rows_after s.setting (order_log s order) (length order)) (sym next)
    (subst (λ (n : ℕ). rows_after s.setting (items_of (with_bytes s known es bytes)) (suc n) ≡ rows_after s.setting (order_log s order) n) count rows)
