use Rattle.std.proofs.Common.{◌≡◌, ℕ, ◌+◌, ◌-◌, ◌≤◌, true, nat_le, List, [], ◌∷◌, ◌++◌, length, Option, Some, None, option_map, refl, sym, ap, subst, ◌∙◌, arith}
use Rattle.std.proofs.lemmas.Bool.Decides.{nat_tests}
use Rattle.std.proofs.lemmas.List.{length-append, length-map}
use Rattle.bpf_semantics.specs.Run.{Run}
use Rattle.log_model.specs.Log.{Call, IsLog, first_repeated, history, run_in}
use Rattle.log_model.specs.Entries.{Entry, item_of, items_of}
use Rattle.log_model.specs.Verdicts.{WroteWhatWasRead}
use Rattle.log_entry.specs.Head.{CallHead}
use Rattle.site_model.specs.declared.outcome.EntryOutcome.TheVariants as outcome
use Rattle.site_model.specs.Standing.{executed}
use Rattle.site_model.specs.Order.{order_entries, order_log, outcome_behind, sessions_after, with_bytes}
use Rattle.site_model.specs.Answer.{asked_call}
use Rattle.site_laws.specs.Requests.{with_reply}
use Rattle.site_laws.proofs.LogLemmas.{beginning, commits_there}
use Rattle.site_laws.proofs.OutcomeLemmas.{committed_from}
use Rattle.site_laws.proofs.OwnLemmas.{submitted_is_own}
use Rattle.site_laws.proofs.FreeLemmas.{free_commits}
use Rattle.site_laws.proofs.own.own_calls_commit_where_nothing_stands_in_their_way.Goals as goal

none_of : (f : ℕ → ℕ × ℕ) (o : Option ℕ) → option_map f o ≡ None → o ≡ None
none_of f None e = refl
none_of f (Some n) e = absurd cc

pub returns-clause-free : goal.returns-clause-free
returns-clause-free c s order between asked bytes is submitted free =
    let es = order_entries s order in
    let call = asked_call (order_log s order) is.procedure asked in
    let now = sessions_after s (order ++ between) in
    let (later, e) = beginning s order between in
    let count = c.orders_grow.ensures.count in
    let whole : IsLog (items_of (with_bytes s now (es ++ later) bytes)) =
    subst (λ (xs : List Entry). IsLog (items_of (with_bytes s now xs bytes))) e
    (subst (λ (xs : List Entry). IsLog (items_of xs)) (c.orders_grow.ensures.next s (order ++ between) bytes) (c.orders_have_logs.ensures s ((order ++ between) ++ bytes ∷ []))) in
    let new : first_repeated s.setting.beginning.requests (history s.setting (items_of (es ++ later))).certified call ≡ None =
    subst (λ (xs : List Entry). first_repeated s.setting.beginning.requests (history s.setting (items_of xs)).certified call ≡ None) e
    (none_of (with_reply s (order_entries s (order ++ between)) call.request) (first_repeated s.setting.beginning.requests (history s.setting (order_log s (order ++ between))).certified call) free.new) in
    let first : length (order_log s order) ≡ length order = length-map es item_of ∙ count s order in
    let all : length (items_of (es ++ later)) ≡ length order + length between =
    length-map (es ++ later) item_of ∙ sym (ap (λ (xs : List Entry). length xs) e) ∙ count s (order ++ between) ∙ length-append order between in
    let recent = free.recent in
    let near : nat_le (length (items_of (es ++ later)) - call.snapshot) s.setting.window ≡ true =
    let le : length (items_of (es ++ later)) - length (order_log s order) ≤ s.setting.window = omega arith in grind (arith, nat_tests) in
    subst (λ (xs : List Entry). outcome_behind s now xs bytes ≡ outcome.Committed (run_in s.setting (order_log s order) call).reply) (sym e)
    (free_commits s now es later bytes call (submitted_is_own s order asked bytes is submitted c.entries_have_their_heads.ensures.calls later) free.in_session new near c.verdicts_in_words_of_the_log.ensures.conflict whole (omega (arith, first, all))
    (λ position since wrote. free.apart position (omega (arith, since, first))
    (subst (λ (xs : List Entry). WroteWhatWasRead s.setting (items_of xs) (run_in s.setting (order_log s order) call).looks position) (sym e) wrote)))

pub returns-clause-reply : goal.returns-clause-reply
returns-clause-reply c s order between asked bytes reply is submitted commits =
    let es = order_entries s order in
    let call = asked_call (order_log s order) is.procedure asked in
    let now = sessions_after s (order ++ between) in
    let (later, e) = beginning s order between in
    let there : outcome_behind s now (es ++ later) bytes ≡ outcome.Committed reply = subst (λ (xs : List Entry). outcome_behind s now xs bytes ≡ outcome.Committed reply) e commits in
    let is_own = submitted_is_own s order asked bytes is submitted c.entries_have_their_heads.ensures.calls later in
    let (found, told, is_call) = committed_from s now (es ++ later) bytes reply there in
    let same : found ≡ call = same_call found call told _ (sym is_call.head ∙ is_own.head) in
    let said = commits_there s now (es ++ later) bytes c.each_call_has_a_verdict.ensures.within (executed s.setting (items_of (es ++ later)) found) reply is_call.stands there in
    sym said.1 ∙ ap (λ (x : Call). (run_in s.setting (items_of (es ++ later)) x).reply) same ∙ ap (λ (r : Run). r.reply) is_own.run
  where
    same_call : (a b : Call) (m n : ℕ) → Some (CallHead a m) ≡ Some (CallHead b n) → a ≡ b
    same_call a b m n e = cc
