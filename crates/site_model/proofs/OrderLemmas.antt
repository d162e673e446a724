-- Orders, their logs, and the sessions behind them.
use Rattle.std.proofs.Common.{◌≡◌, ℕ, ◌+◌, ◌≤◌, List, [], ◌∷◌, ◌++◌, length, ap, ◌∙◌, arith}
use Rattle.std.specs.List.{fold}
use Rattle.std.proofs.lemmas.List.{length-append}
use Rattle.std.proofs.lemmas.List.Sums.{fold-append}
use Rattle.site_model.specs.declared.outcome.EntryOutcome.{EntryOutcome}
use Rattle.site_model.specs.declared.outcome.EntryOutcome.TheVariants as outcome
use Rattle.site_model.specs.Sessions.{opened_with, sessions_with}
use Rattle.site_model.specs.Standing.{SiteSetting}
use Rattle.site_model.specs.Order.{Order, Followed, before_order, followed, followed_by, next_outcome, order_entries, outcome_behind, sessions_after, with_bytes}

one_more : (s : SiteSetting) (order : Order) (bytes : List ℕ) → followed s (order ++ bytes ∷ []) ≡ followed_by s (followed s order) bytes
unfolding followed
one_more s order bytes = fold-append (followed_by s) (before_order s) order (bytes ∷ [])

pub next_entries : (s : SiteSetting) (order : Order) (bytes : List ℕ) → order_entries s (order ++ bytes ∷ []) ≡ with_bytes s (sessions_after s order) (order_entries s order) bytes
next_entries s order bytes = ap (λ (f : Followed). f.entries) (one_more s order bytes)

pub next_sessions : (s : SiteSetting) (order : Order) (bytes : List ℕ) → sessions_after s (order ++ bytes ∷ []) ≡ sessions_with (sessions_after s order) bytes (next_outcome s order bytes)
next_sessions s order bytes = ap (λ (f : Followed). f.sessions) (one_more s order bytes)

count_from : (s : SiteSetting) (f : Followed) (order : Order) → length (fold (followed_by s) f order).entries ≡ length f.entries + length order
count_from s f [] = omega arith
count_from s f (bytes ∷ order) =
    let more = count_from s (followed_by s f bytes) order in
    let one : length (with_bytes s f.sessions f.entries bytes) ≡ length f.entries + 1 = length-append f.entries _ in
    omega arith

pub count_entries : (s : SiteSetting) (order : Order) → length (order_entries s order) ≡ length order
unfolding followed
count_entries s order = count_from s (before_order s) order ∙ (let none : 0 + length order ≡ length order = omega arith in none)

-- an outcome opens one session or none
pub opens_one : (opened : ℕ) (o : EntryOutcome) → (opened ≤ opened_with opened o) × (opened_with opened o ≤ opened + 1)
opens_one opened (outcome.Session session) = (omega arith, omega arith)
opens_one opened (outcome.Committed reply) = (omega arith, omega arith)
opens_one opened (outcome.Conflict position) = (omega arith, omega arith)
opens_one opened outcome.Stale = (omega arith, omega arith)
opens_one opened (outcome.Repeated position reply) = (omega arith, omega arith)
opens_one opened (outcome.Added number) = (omega arith, omega arith)
opens_one opened (outcome.Taken identifier) = (omega arith, omega arith)
opens_one opened (outcome.Nothing cause) = (omega arith, omega arith)

opened_from : (s : SiteSetting) (f : Followed) (order : Order) → (fold (followed_by s) f order).sessions.opened ≤ f.sessions.opened + length order
opened_from s f [] = omega arith
opened_from s f (bytes ∷ order) =
    let more = opened_from s (followed_by s f bytes) order in
    let one = (opens_one f.sessions.opened (outcome_behind s f.sessions f.entries bytes)).1 in
    omega arith

pub opened_few : (s : SiteSetting) (order : Order) → (sessions_after s order).opened ≤ length order
unfolding followed
opened_few s order = let few = opened_from s (before_order s) order in omega arith
