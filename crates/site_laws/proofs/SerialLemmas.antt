-- The calls of an order that commit, run one after another.
use Rattle.std.proofs.Common.{◌≡◌, ◌≢◌, ℕ, suc, ◌≤◌, List, [], ◌∷◌, ◌++◌, length, Option, Some, None, refl, sym, ap, subst, ◌∙◌, arith, append_assoc, append-nil}
use Rattle.std.proofs.lemmas.List.{length-append, length-map, map-append}
use Rattle.std.proofs.lemmas.List.Elements.{All-head, All-push, All-tail}
use Rattle.schema.specs.Rows.{Rows}
use Rattle.bpf_semantics.specs.Run.{Run}
use Rattle.log_model.specs.Log.{Call, Catalogue, Log, IsPlaced, rows_after, run_of_call, run_on}
use Rattle.log_model.specs.Entries.{Entry, ExecutedCall, CallEntry, item_of, items_of}
use Rattle.log_model.proofs.GrowthLemmas.{procedures_grown}
use Rattle.log_entry.specs.Head.{Head, CallHead, AdditionHead, head_of}
use Rattle.site_model.specs.declared.outcome.EntryOutcome.{EntryOutcome}
use Rattle.site_model.specs.declared.outcome.EntryOutcome.TheVariants as outcome
use Rattle.site_model.specs.Fit.{AreFitEntries}
use Rattle.site_model.specs.Standing.{SiteSetting, StandsAs, executed, standing}
use Rattle.site_model.specs.Order.{Order, next_outcome, order_entries, order_log, sessions_after}
use Rattle.site_laws.specs.Orders.{IsBytes, IsOfBytes, rows_behind}
use Rattle.site_laws.specs.Serial.{RunsNext, RunInTurn, ToldCall, committed_behind, told_where_committed}
use Rattle.site_laws.proofs.LogLemmas.{ArePlaced, beginning, entry_is}
use Rattle.site_laws.proofs.OutcomeLemmas.{committed_from}

-- what the laws of one more byte string say
abbrev pub Committed : Type 0
Committed = (s : SiteSetting) (order : Order) (bytes : List ℕ) (e : ExecutedCall) (reply : ℕ) → AreFitEntries s.setting (order_entries s (order ++ bytes ∷ []))
    → standing s (sessions_after s order) (order_log s order) bytes ≡ StandsAs (CallEntry e) → next_outcome s order bytes ≡ outcome.Committed reply → RunsNext s order bytes e.call reply

abbrev pub Others : Type 0
Others = (s : SiteSetting) (order : Order) (bytes : List ℕ) → ((reply : ℕ) → next_outcome s order bytes ≢ outcome.Committed reply)
    → rows_after s.setting (order_log s (order ++ bytes ∷ [])) (suc (length order)) ≡ rows_after s.setting (order_log s order) (length order)

abbrev pub Count : Type 0
Count = (s : SiteSetting) (order : Order) → length (order_entries s order) ≡ length order

-- the log of an order begins with that of a beginning
pub log_beginning : (s : SiteSetting) (order more : Order) → (later : Log) × (order_log s (order ++ more) ≡ order_log s order ++ later)
log_beginning s order more =
    let (later, e) = beginning s order more in
    (items_of later, ap items_of e ∙ map-append item_of (order_entries s order) later)

-- a call runs alike on some rows however the log goes on
run_on_grown : (s : SiteSetting) (log more : Log) (call : Call) (rows : Rows) → call.snapshot ≤ length log → run_on s.setting (log ++ more) call rows ≡ run_on s.setting log call rows
run_on_grown s log more call rows le = ap (λ (ps : Catalogue). run_of_call s.setting.tables ps call rows) (procedures_grown s.setting log more call.snapshot le)

same_call : (a b : Call) (m n : ℕ) → Some (CallHead a m) ≡ Some (CallHead b n) → a ≡ b
same_call a b m n e = cc

module _ (s : SiteSetting) (committed : Committed) (others : Others) (count : Count) (placed : ArePlaced) (fit : (order : Order) → IsOfBytes order → AreFitEntries s.setting (order_entries s order)) where
  -- one more byte string
  module _ (order more : Order) (bytes : List ℕ) (are : IsOfBytes (order ++ bytes ∷ [])) where
    abbrev next : Order
    next = order ++ bytes ∷ []

    abbrev whole : Log
    whole = order_log s (next ++ more)

    one_longer : length next ≡ suc (length order)
    one_longer = omega (arith, length-append order (bytes ∷ []))

    left : ((reply : ℕ) → next_outcome s order bytes ≢ outcome.Committed reply) → rows_behind s next ≡ rows_behind s order
    left never = ap (λ (n : ℕ). rows_after s.setting (order_log s next) n) one_longer ∙ others s order bytes never

    recent : (call : Call) → standing s (sessions_after s order) (order_log s order) bytes ≡ StandsAs (CallEntry (executed s.setting (order_log s order) call)) → call.snapshot ≤ length (order_log s next)
    recent call stands =
        let early : call.snapshot ≤ length (order_entries s order) =
        subst (λ (e : Entry). IsPlaced (length (order_entries s order)) (item_of e)) (entry_is s (sessions_after s order) (order_entries s order) bytes (CallEntry (executed s.setting (order_log s order) call)) stands) (placed s (sessions_after s order) (order_entries s order) bytes) in
        omega (arith, early, count s order, count s next, one_longer, length-map (order_entries s next) item_of)

    runs : (call : Call) (reply : ℕ) → standing s (sessions_after s order) (order_log s order) bytes ≡ StandsAs (CallEntry (executed s.setting (order_log s order) call)) → next_outcome s order bytes ≡ outcome.Committed reply
        → (rows_behind s next ≡ (run_on s.setting whole call (rows_behind s order)).effect) × (reply ≡ (run_on s.setting whole call (rows_behind s order)).reply)
    runs call reply stands commits =
        let turn = committed s order bytes (executed s.setting (order_log s order) call) reply (fit next are) stands commits in
        let (later, goes) = log_beginning s next more in
        let same : run_on s.setting whole call (rows_behind s order) ≡ run_on s.setting (order_log s next) call (rows_behind s order) =
        ap (λ (l : Log). run_on s.setting l call (rows_behind s order)) goes ∙ run_on_grown s (order_log s next) later call (rows_behind s order) (recent call stands) in (
          ap (λ (n : ℕ). rows_after s.setting (order_log s next) n) one_longer ∙ turn.rows ∙ sym (ap (λ (r : Run). r.effect) same),
          turn.reply_is ∙ sym (ap (λ (r : Run). r.reply) same),
        )

    abbrev Goes : List ToldCall → Type 0
    Goes calls = RunInTurn s.setting whole (rows_behind s order) (calls ++ committed_behind s next more) (rows_behind s (next ++ more))

    goes_where_left : RunInTurn s.setting whole (rows_behind s next) (committed_behind s next more) (rows_behind s (next ++ more)) → ((reply : ℕ) → next_outcome s order bytes ≢ outcome.Committed reply) → Goes []
    goes_where_left later never = subst (λ (rows : Rows). RunInTurn s.setting whole rows (committed_behind s next more) (rows_behind s (next ++ more))) (left never) later

    by_head : (h : Option Head) → head_of bytes ≡ h → (reply : ℕ) → next_outcome s order bytes ≡ outcome.Committed reply
        → RunInTurn s.setting whole (rows_behind s next) (committed_behind s next more) (rows_behind s (next ++ more)) → Goes (told_where_committed (outcome.Committed reply) h)
    unfolding RunInTurn
    by_head None is reply commits later = absurd (let (call, told, is_call) = committed_from s (sessions_after s order) (order_entries s order) bytes reply commits in no_head call told (sym is ∙ is_call.head))
      where
        no_head : (call : Call) (told : ℕ) → None ≡ Some (CallHead call told) → ⊥
        no_head call told e = absurd cc
    by_head (Some (AdditionHead n)) is reply commits later = absurd (let (call, told, is_call) = committed_from s (sessions_after s order) (order_entries s order) bytes reply commits in no_addition call told (sym is ∙ is_call.head))
      where
        no_addition : (call : Call) (told : ℕ) → Some (AdditionHead n) ≡ Some (CallHead call told) → ⊥
        no_addition call told e = absurd cc
    by_head (Some (CallHead call carried)) is reply commits later =
        let (c, told, is_call) = committed_from s (sessions_after s order) (order_entries s order) bytes reply commits in
        let same : c ≡ call = same_call c call told carried (sym is_call.head ∙ is) in
        let ran = subst (λ (x : Call). (rows_behind s next ≡ (run_on s.setting whole x (rows_behind s order)).effect) × (reply ≡ (run_on s.setting whole x (rows_behind s order)).reply)) same (runs c reply is_call.stands commits) in
        (ran.1, subst (λ (rows : Rows). RunInTurn s.setting whole rows (committed_behind s next more) (rows_behind s (next ++ more))) ran.0 later)

    by_outcome : (o : EntryOutcome) → next_outcome s order bytes ≡ o → RunInTurn s.setting whole (rows_behind s next) (committed_behind s next more) (rows_behind s (next ++ more)) → Goes (told_where_committed o (head_of bytes))
    by_outcome (outcome.Committed reply) is later = by_head (head_of bytes) refl reply is later
    by_outcome (outcome.Conflict n) is later = goes_where_left later (λ reply e. absurd (let x = sym is ∙ e in cc))
    by_outcome outcome.Stale is later = goes_where_left later (λ reply e. absurd (let x = sym is ∙ e in cc))
    by_outcome (outcome.Repeated n reply) is later = goes_where_left later (λ reply e. absurd (let x = sym is ∙ e in cc))
    by_outcome (outcome.Added n) is later = goes_where_left later (λ reply e. absurd (let x = sym is ∙ e in cc))
    by_outcome (outcome.Taken i) is later = goes_where_left later (λ reply e. absurd (let x = sym is ∙ e in cc))
    by_outcome (outcome.Session session) is later = goes_where_left later (λ reply e. absurd (let x = sym is ∙ e in cc))
    by_outcome (outcome.Nothing c) is later = goes_where_left later (λ reply e. absurd (let x = sym is ∙ e in cc))

  pub in_turn : (order more : Order) → IsOfBytes order → IsOfBytes more → RunInTurn s.setting (order_log s (order ++ more)) (rows_behind s order) (committed_behind s order more) (rows_behind s (order ++ more))
  unfolding RunInTurn committed_behind
  in_turn order [] are more_are = ap (rows_behind s) (append-nil order)
  in_turn order (bytes ∷ more) are more_are =
      let next = order ++ bytes ∷ [] in
      let next_are : IsOfBytes next = All-push IsBytes order bytes are (All-head IsBytes bytes more more_are) in
      let later = in_turn next more next_are (All-tail IsBytes bytes more more_are) in
      subst (λ (o : Order). RunInTurn s.setting (order_log s o) (rows_behind s order) (committed_behind s order (bytes ∷ more)) (rows_behind s o)) (append_assoc order (bytes ∷ []) more)
      (by_outcome order more bytes next_are (next_outcome s order bytes) refl later)
