use Rattle.std.proofs.Common.{◌≡◌, ◌≢◌, ℕ, ◌+◌, ◌≤◌, true, false, List, [], ◌∷◌, ◌++◌, length, Some, sym, ap, subst, ◌∙◌, arith, append_assoc, append-nil}
use Rattle.std.proofs.lemmas.List.{length-map}
use Rattle.log_model.specs.Log.{StoredProcedure, Catalogue, IsPlaced, by_name, by_number, procedure_of, verdict_of}
use Rattle.log_model.specs.Entries.{Entry, CallEntry, item_of, items_of}
use Rattle.log_model.specs.OpenRequest.{has_zero}
use Rattle.site_model.specs.declared.outcome.EntryOutcome.{EntryOutcome}
use Rattle.site_model.specs.declared.outcome.EntryOutcome.TheVariants as outcome
use Rattle.site_model.specs.Answer.{answer_for}
use Rattle.site_model.specs.Standing.{Standing, StandsAs, executed, standing}
use Rattle.site_model.specs.Order.{replies_to, Order, next_outcome, order_entries, order_log, outcome_of, sessions_after, with_bytes}
use Rattle.site_model.proofs.StandingLemmas.{stands_as_call}
use Rattle.site_laws.specs.Orders.{procedures_behind}
use Rattle.site_laws.proofs.LogLemmas.{entry_is}
use Rattle.site_laws.proofs.SettledLemmas.{known_by, stands_by}
use Rattle.site_laws.proofs.NameLemmas.{no_name_before, no_number_before}
use Rattle.site_laws.proofs.FinalLemmas.{answer_is, zero_in_request, heads_are_whole, other_arguments, refused_again, some_procedure, unknown_by, wrong_length}
use Rattle.site_laws.proofs.refusals.refusals_hold_for_good.Goals as goal

pub returns-clause-kept : goal.returns-clause-kept
returns-clause-kept c s order more asked refusal other refused =
    let count = c.orders_grow.ensures.count in
    let is = sym (answer_is count s order asked) ∙ refused in
    let (p, found) = some_procedure s (sessions_after s order) (order_entries s order) asked (by_name (procedures_behind s order) asked.name) refusal other is in
    answer_is count s (order ++ more) asked
    ∙ ap (answer_for s (sessions_after s (order ++ more)) (order_entries s (order ++ more)) asked) (c.procedures_only_grow.ensures.name s order more asked.name p found)
    ∙ refused_again s (sessions_after s order) (order_entries s order) asked (sessions_after s (order ++ more)) (order_entries s (order ++ more)) refusal (Some p) (sym (ap (answer_for s (sessions_after s order) (order_entries s order) asked) found) ∙ is)

pub returns-clause-before : goal.returns-clause-before
returns-clause-before c s order more asked refused =
    let count = c.orders_grow.ensures.count in
    let none = unknown_by s (sessions_after s (order ++ more)) (order_entries s (order ++ more)) asked (by_name (procedures_behind s (order ++ more)) asked.name) (sym (answer_is count s (order ++ more) asked) ∙ refused) in
    let (later, goes) = c.procedures_only_grow.ensures.later s order more in
    let before = no_name_before (procedures_behind s order) later asked.name (sym (ap (λ (ps : Catalogue). by_name ps asked.name) goes) ∙ none) in
    answer_is count s order asked ∙ ap (answer_for s (sessions_after s order) (order_entries s order) asked) before

-- where no procedures are added there are the same
pub returns-clause-unknown : goal.returns-clause-unknown
returns-clause-unknown c s order more asked never refused =
    let count = c.orders_grow.ensures.count in
    let none = unknown_by s (sessions_after s order) (order_entries s order) asked (by_name (procedures_behind s order) asked.name) (sym (answer_is count s order asked) ∙ refused) in
    answer_is count s (order ++ more) asked
    ∙ ap (λ (ps : Catalogue). answer_for s (sessions_after s (order ++ more)) (order_entries s (order ++ more)) asked (by_name ps asked.name)) (same_procedures order more)
    ∙ ap (answer_for s (sessions_after s (order ++ more)) (order_entries s (order ++ more)) asked) none
  where
    no_additions : (order : Order) (bytes : List ℕ) (number : ℕ) → next_outcome s order bytes ≢ outcome.Added number
    no_additions order bytes number told =
        let (p, adds, same) = (c.procedures_after_each_byte_string.ensures.told s order bytes number).0 told in
        contradiction adds.names.taken never
      where
        contradiction : s.takes_additions ≡ true → s.takes_additions ≡ false → ⊥
        contradiction taken none = absurd (let x = sym taken ∙ none in cc)

    same_procedures : (order more : Order) → procedures_behind s (order ++ more) ≡ procedures_behind s order
    same_procedures order [] = ap (procedures_behind s) (append-nil order)
    same_procedures order (bytes ∷ more) =
        ap (procedures_behind s) (sym (append_assoc order (bytes ∷ []) more)) ∙ same_procedures (order ++ bytes ∷ []) more ∙ c.procedures_after_each_byte_string.ensures.others s order bytes (no_additions order bytes)

pub returns-clause-arguments : goal.returns-clause-arguments
returns-clause-arguments c s order more bytes asked p call told reply distinct refused named head number args commits =
    let count = c.orders_grow.ensures.count in
    let w = s.setting in
    let es = order_entries s (order ++ more) in
    let known_then = sessions_after s (order ++ more) in
    let log = order_log s (order ++ more) in
    let by = stands_as_call s known_then log bytes call told head in
    let v = verdict_of w (items_of (with_bytes s known_then es bytes)) (length es + 1) in
    let st = stands_by s known_then log call bytes (replies_to s (with_bytes s known_then es bytes) bytes) v reply (sym (ap (λ (x : Standing). outcome_of (replies_to s (with_bytes s known_then es bytes) bytes) x v) by) ∙ commits) in
    let stands : standing s known_then log bytes ≡ StandsAs (CallEntry (executed w log call)) = by ∙ st.stands in
    let (q, known) = known_by (procedure_of w log call) call.args st.takes in
    let recent : call.snapshot ≤ length es =
    subst (λ (e : Entry). IsPlaced (length es) (item_of e)) (entry_is s known_then es bytes (CallEntry (executed w log call)) stands) (c.what_stands_is_of_the_log.ensures.placed s known_then es bytes) in
    let long : length log ≡ length es = length-map es item_of in
    let last : length (order ++ more) ≡ length log = sym (long ∙ count s (order ++ more)) in
    let now : by_number (procedures_behind s (order ++ more)) call.procedure ≡ Some q =
    c.procedures_are_never_lost.ensures w log call.snapshot (length (order ++ more)) call.procedure q (c.orders_have_logs.ensures s (order ++ more)) (omega (arith, recent, long, last)) (omega (arith, last)) known in
    let own : by_number (procedures_behind s (order ++ more)) p.number ≡ Some p =
    c.procedures_only_grow.ensures.number s order more p.number p (c.procedures_only_grow.ensures.own s order asked.name p distinct named) in
    let same : q ≡ p = some_same q p (sym now ∙ ap (by_number (procedures_behind s (order ++ more))) number ∙ own) in
    let wrong = wrong_length s (sessions_after s order) (order_entries s order) asked p (sym (ap (answer_for s (sessions_after s order) (order_entries s order) asked) named) ∙ sym (answer_is count s order asked) ∙ refused) in
    other_arguments w log call p q asked.args known same args wrong st.takes
  where
    some_same : (a b : StoredProcedure) → Some a ≡ Some b → a ≡ b
    some_same a b e = cc

pub returns-clause-request : goal.returns-clause-request
returns-clause-request c s order bytes asked call told refused head same =
    let half = zero_in_request s (sessions_after s order) (order_entries s order) asked (by_name (procedures_behind s order) asked.name) (sym (answer_is c.orders_grow.ensures.count s order asked) ∙ refused) in
    absurd (let x = sym (heads_are_whole bytes call told head) ∙ ap has_zero same ∙ half in cc)

pub returns-clause-taken : goal.returns-clause-taken
returns-clause-taken c s order more bytes identifier number taken added =
    let (p, adds, same) = (c.procedures_after_each_byte_string.ensures.told s (order ++ more) bytes number).0 added in
    let (later, goes) = c.procedures_only_grow.ensures.later s order more in
    let here = (c.procedures_after_each_byte_string.ensures.told s order bytes number).1 (
      p,
      record {
        names = adds.names;
        new_name = no_name_before (procedures_behind s order) later p.name (sym (ap (λ (ps : Catalogue). by_name ps p.name) goes) ∙ adds.new_name);
        new_number = no_number_before (procedures_behind s order) later p.number (sym (ap (λ (ps : Catalogue). by_number ps p.number) goes) ∙ adds.new_number);
      },
      same,
    ) in
    not_both (next_outcome s order bytes) here taken
  where
    not_both : (o : EntryOutcome) → o ≡ outcome.Added number → o ≡ outcome.Taken identifier → ⊥
    not_both o a b = absurd (let x = sym a ∙ b in cc)
