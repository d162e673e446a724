use Rattle.std.proofs.Common.{◌≡◌, ◌∙◌, List, [], ◌∷◌, ◌++◌, sym, ap, subst, append_assoc}
use Rattle.log_model.specs.Log.{IsLog}
use Rattle.log_model.specs.Entries.{Entry, items_of}
use Rattle.site_model.specs.Order.{order_entries, sessions_after, with_bytes}
use Rattle.site_laws.proofs.LogLemmas.{beginning, once}
use Rattle.site_laws.proofs.laws.each_request_commits_once_in_an_order.Goals as goal

pub returns : goal.returns
returns c s first between a b x y reply other is told stands same again =
    let before = first ++ a ∷ between in
    let (later, e) = beginning s (first ++ a ∷ []) between in
    let goes : order_entries s before ≡ with_bytes s (sessions_after s first) (order_entries s first) a ++ later =
    ap (order_entries s) (sym (append_assoc first (a ∷ []) between)) ∙ e ∙ ap (λ (xs : List Entry). xs ++ later) (c.orders_grow.ensures.next s first a) in
    let log = subst (λ (xs : List Entry). IsLog (items_of xs)) (c.orders_grow.ensures.next s before b) (c.orders_have_logs.ensures s (before ++ b ∷ [])) in
    once s (sessions_after s first) (sessions_after s before) (order_entries s first) (order_entries s before) later a b x y reply other c.each_call_has_a_verdict.ensures.within c.a_log_only_grows.ensures.verdicts c.each_request_commits_once.ensures.once goes log is told stands same again
