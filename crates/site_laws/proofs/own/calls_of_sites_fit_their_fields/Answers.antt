use Rattle.std.proofs.Common.{◌≡◌, ℕ, [], length, All, Option, Some, None, refl, sym, ap, subst, ◌∙◌, arith}
use Rattle.std.proofs.lemmas.Bool.Decides.{nat_tests}
use Rattle.std.proofs.lemmas.List.{length-map}
use Rattle.log_model.specs.Log.{StoredProcedure, by_name, by_number, procedures_after}
use Rattle.log_model.specs.Entries.{item_of}
use Rattle.site_model.specs.declared.answer.CallAnswer.TheVariants.{Submitted}
use Rattle.site_model.specs.Answer.{answer_for, asked_call}
use Rattle.site_model.specs.Order.{order_entries, order_log, sessions_after}
use Rattle.site_laws.specs.Orders.{FitsFields, procedures_behind}
use Rattle.site_model.specs.Own.{IsAskedOf}
use Rattle.site_laws.proofs.AskedLemmas.{fit_from, found_fits, reply_fits}
use Rattle.site_laws.proofs.FinalLemmas.{answer_is}
use Rattle.site_laws.proofs.OwnLemmas.{ordered_by}
use Rattle.site_laws.proofs.own.calls_of_sites_fit_their_fields.Goals as goal

pub returns-clause-asked : goal.returns-clause-asked
returns-clause-asked c s order asked bytes is are short args session sequence submitted =
    by_procedure (by_name (procedures_behind s order) asked.name) refl (sym (answer_is c.orders_grow.ensures.count s order asked) ∙ submitted)
  where
    found_is : (p : StoredProcedure) → by_name (procedures_behind s order) asked.name ≡ Some p → answer_for s (sessions_after s order) (order_entries s order) asked (Some p) ≡ Submitted bytes → IsAskedOf s order asked
    found_is p found answer =
        let w = s.setting in
        let es = order_entries s order in
        let log = order_log s order in
        let call = asked_call log p asked in
        let fit = c.orders_of_bytes_fit.ensures s order is.safe are in
        let all = fit_from s c.procedures_after_each_byte_string.ensures.told c.procedures_after_each_byte_string.ensures.added c.procedures_after_each_byte_string.ensures.others c.programs_pass_where_they_are_accepted.ensures.passed [] order are
        (subst (All FitsFields) (sym (c.procedures_after_each_byte_string.ensures.first s)) is.procedures) in
        let f = found_fits (procedures_behind s order) asked.name p all found in
        let o = ordered_by s (sessions_after s order) es asked p bytes answer in
        let numbered = c.procedures_only_grow.ensures.own s order asked.name p is.distinct found in
        let long : length log ≡ length order = length-map es item_of ∙ c.orders_grow.ensures.count s order in
        let known = subst (λ (n : ℕ). by_number (procedures_after w log n) p.number ≡ Some p) (sym long) numbered in
        let few = f.arguments in
        let taken = o.takes in
        let count : p.args_len ≡ length asked.args = grind (arith, nat_tests) in
        record {
          procedure = p;
          named = subst (λ (n : ℕ). by_name (procedures_after w log n) asked.name ≡ Some p) (sym (c.orders_grow.ensures.count s order)) found;
          numbered = subst (λ (n : ℕ). by_number (procedures_after w log n) p.number ≡ Some p) (sym (c.orders_grow.ensures.count s order)) numbered;
          fits = record {
            number = omega arith;
            procedure = f.number;
            args = omega (arith, count, few);
            snapshot = omega (arith, long, short);
            session = session;
            sequence = sequence;
            whole = o.whole;
            reply = reply_fits w.tables (procedures_after w log (length log)) call _ p c.states_fit.ensures.run known f.program args (c.logs_whose_calls_fit.ensures.rows w log (length log) fit.begins fit.log fit.items (omega arith));
          };
        }

    by_procedure : (o : Option StoredProcedure) → by_name (procedures_behind s order) asked.name ≡ o → answer_for s (sessions_after s order) (order_entries s order) asked (by_name (procedures_behind s order) asked.name) ≡ Submitted bytes → IsAskedOf s order asked
    by_procedure None none answer = absurd (let x = sym (ap (answer_for s (sessions_after s order) (order_entries s order) asked) none) ∙ answer in cc)
    by_procedure (Some p) found answer = found_is p found (sym (ap (answer_for s (sessions_after s order) (order_entries s order) asked) found) ∙ answer)

pub returns-clause-something : goal.returns-clause-something
returns-clause-something c s order more asked bytes cause is are short args session sequence submitted =
    c.own_calls_are_not_nothing.ensures.others s order more asked bytes cause (returns-clause-asked c s order asked bytes is are short args session sequence submitted) submitted

pub returns-clause-without_origin : goal.returns-clause-without_origin
returns-clause-without_origin c s order more asked bytes cause is are short args session sequence submitted =
    c.own_calls_are_not_nothing.ensures.without_origin s order more asked bytes cause (returns-clause-asked c s order asked bytes is are short args session sequence submitted) submitted
