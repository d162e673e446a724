use Rattle.std.proofs.Common.{◌≡◌, ℕ, suc, List, [], ◌∷◌, ◌++◌, length, None, sym, ap, subst, ◌∙◌, arith}
use Rattle.std.proofs.lemmas.List.{length-append}
use Rattle.log_model.specs.Log.{Catalogue, IsLog, by_name, by_number, procedures_after}
use Rattle.log_model.specs.Entries.{Entry, items_of}
use Rattle.site_model.specs.declared.outcome.EntryOutcome.TheVariants as outcome
use Rattle.site_model.specs.Standing.{SiteSetting}
use Rattle.site_model.specs.Order.{Order, order_entries, order_log, sessions_after, with_bytes}
use Rattle.site_laws.specs.Orders.{procedures_behind}
use Rattle.site_laws.proofs.OutcomeLemmas.{added_from, names_by, stands_named}
use Rattle.site_laws.proofs.ProcedureLemmas.{is_new, one_more, others, says_added}
use Rattle.site_laws.proofs.procedures.procedures_after_each_byte_string.Goals as goal

abbrev Count : Type 0
Count = (s : SiteSetting) (order : Order) → length (order_entries s order) ≡ length order

abbrev Next : Type 0
Next = (s : SiteSetting) (order : Order) (bytes : List ℕ) → order_entries s (order ++ bytes ∷ []) ≡ with_bytes s (sessions_after s order) (order_entries s order) bytes

behind_is : Count → (s : SiteSetting) (order : Order) → procedures_after s.setting (order_log s order) (length (order_entries s order)) ≡ procedures_behind s order
behind_is count s order = ap (λ (n : ℕ). procedures_after s.setting (order_log s order) n) (count s order)

next_is : Count → Next → (s : SiteSetting) (order : Order) (bytes : List ℕ) → procedures_behind s (order ++ bytes ∷ []) ≡ procedures_after s.setting (items_of (with_bytes s (sessions_after s order) (order_entries s order) bytes)) (suc (length (order_entries s order)))
next_is count next s order bytes =
    let long : length (order ++ bytes ∷ []) ≡ suc (length (order_entries s order)) = omega (arith, length-append order (bytes ∷ []), count s order) in
    ap (λ (n : ℕ). procedures_after s.setting (order_log s (order ++ bytes ∷ [])) n) long
    ∙ ap (λ (es : List Entry). procedures_after s.setting (items_of es) (suc (length (order_entries s order)))) (next s order bytes)

pub returns-clause-first : goal.returns-clause-first
returns-clause-first c s = c.procedures_after_each_item.ensures.first s.setting (order_log s [])

pub returns-clause-told : goal.returns-clause-told
returns-clause-told c s order bytes number =
    let es = order_entries s order in
    let known = sessions_after s order in
    let log = subst (λ (xs : List Entry). IsLog (items_of xs)) (c.orders_grow.ensures.next s order bytes) (c.orders_have_logs.ensures s (order ++ bytes ∷ [])) in
    let here = behind_is c.orders_grow.ensures.count s order in (
      λ told.
          let (p, stands, commit, same) = added_from s known es bytes c.each_call_has_a_verdict.ensures.within number told in
          let new = (is_new s known es bytes c.a_log_only_grows.ensures.procedures c.verdicts_on_additions_in_words_of_the_log.ensures.commit log p stands).0 commit in (
            p,
            record {
              names = names_by s known (order_log s order) bytes p stands;
              new_name = subst (λ (ps : Catalogue). by_name ps p.name ≡ None) here new.0;
              new_number = subst (λ (ps : Catalogue). by_number ps p.number ≡ None) here new.1;
            },
            same,
          ),
      λ adds.
          let p = adds.0 in
          let stands = stands_named s known (order_log s order) bytes p adds.1.names in
          let commit = (is_new s known es bytes c.a_log_only_grows.ensures.procedures c.verdicts_on_additions_in_words_of_the_log.ensures.commit log p stands).1 (
            subst (λ (ps : Catalogue). by_name ps p.name ≡ None) (sym here) adds.1.new_name,
            subst (λ (ps : Catalogue). by_number ps p.number ≡ None) (sym here) adds.1.new_number,
          ) in
          says_added s known es bytes p stands commit ∙ ap (λ (n : ℕ). outcome.Added n) adds.2,
    )

pub returns-clause-added : goal.returns-clause-added
returns-clause-added c s order bytes p adds =
    let es = order_entries s order in
    let known = sessions_after s order in
    let log = subst (λ (xs : List Entry). IsLog (items_of xs)) (c.orders_grow.ensures.next s order bytes) (c.orders_have_logs.ensures s (order ++ bytes ∷ [])) in
    let here = behind_is c.orders_grow.ensures.count s order in
    let stands = stands_named s known (order_log s order) bytes p adds.names in
    let commit = (is_new s known es bytes c.a_log_only_grows.ensures.procedures c.verdicts_on_additions_in_words_of_the_log.ensures.commit log p stands).1 (
      subst (λ (ps : Catalogue). by_name ps p.name ≡ None) (sym here) adds.new_name,
      subst (λ (ps : Catalogue). by_number ps p.number ≡ None) (sym here) adds.new_number,
    ) in
    next_is c.orders_grow.ensures.count c.orders_grow.ensures.next s order bytes
    ∙ one_more s known es bytes c.a_log_only_grows.ensures.procedures c.procedures_after_each_item.ensures.addition log p stands commit
    ∙ ap (λ (ps : Catalogue). ps ++ p ∷ []) here

pub returns-clause-others : goal.returns-clause-others
returns-clause-others c s order bytes never =
    let es = order_entries s order in
    let known = sessions_after s order in
    let log = subst (λ (xs : List Entry). IsLog (items_of xs)) (c.orders_grow.ensures.next s order bytes) (c.orders_have_logs.ensures s (order ++ bytes ∷ [])) in
    next_is c.orders_grow.ensures.count c.orders_grow.ensures.next s order bytes
    ∙ others s known es bytes c.each_call_has_a_verdict.ensures.within c.a_log_only_grows.ensures.procedures c.procedures_after_each_item.ensures.call c.procedures_after_each_item.ensures.addition log never
    ∙ behind_is c.orders_grow.ensures.count s order
