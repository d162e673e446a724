-- Calls that run in their turn.
use Rattle.std.specs.Prelude.{◌≡◌, ℕ, suc, ◌++◌, List, [], ◌∷◌, length, Option, Some}
use Rattle.schema.specs.Rows.{Rows}
use Rattle.bpf_semantics.specs.Run.{Run}
use Rattle.log_model.specs.Log.{Call, Log, Setting, rows_after, run_on}
use Rattle.log_entry.specs.Head.{Head, CallHead, head_of}
use Rattle.site_model.specs.declared.outcome.EntryOutcome.{EntryOutcome}
use Rattle.site_model.specs.declared.outcome.EntryOutcome.TheVariants.{Committed}
use Rattle.site_model.specs.Standing.{SiteSetting}
use Rattle.site_model.specs.Order.{Order, next_outcome, order_log}

-- the run of a call of one more byte string on the rows of an order's end
abbrev pub run_next : SiteSetting → Order → List ℕ → Call → Run
run_next s order bytes call =
    run_on s.setting (order_log s (order ++ bytes ∷ [])) call (rows_after s.setting (order_log s order) (length order))

-- the rows after that byte string are the run's effect, and its reply is this
pub record RunsNext (s : SiteSetting) (order : Order) (bytes : List ℕ) (call : Call) (reply : ℕ) : Type 0 where
  pub rows :
      rows_after s.setting (order_log s (order ++ bytes ∷ [])) (suc (length order)) ≡ (run_next s order bytes call).effect
  pub reply_is : reply ≡ (run_next s order bytes call).reply

-- ---- a whole order

-- a call, and the reply that is told of it
pub record ToldCall : Type 0 where
  pub call : Call
  pub reply : ℕ

abbrev pub told_call : ℕ → Option Head → List ToldCall
told_call reply (Some (CallHead call carried)) = record { call = call; reply = reply } ∷ []
told_call reply _ = []

abbrev pub told_where_committed : EntryOutcome → Option Head → List ToldCall
told_where_committed (Committed reply) head = told_call reply head
told_where_committed _ head = []

-- the call that a byte string behind an order names, where it commits
abbrev pub committed_next : SiteSetting → Order → List ℕ → List ToldCall
committed_next s order bytes = told_where_committed (next_outcome s order bytes) (head_of bytes)

-- the calls that commit among more byte strings behind an order
unfoldable pub committed_behind : SiteSetting → Order → Order → List ToldCall
committed_behind s order [] = []
committed_behind s order (bytes ∷ more) = committed_next s order bytes ++ committed_behind s (order ++ bytes ∷ []) more

-- and among all of an order
abbrev pub committed_calls : SiteSetting → Order → List ToldCall
committed_calls s order = committed_behind s [] order

-- one after another, each on the rows that those before it leave, these calls reply what is told and leave the last rows
unfoldable pub RunInTurn : Setting → Log → Rows → List ToldCall → Rows → Type 0
RunInTurn w log rows [] last = last ≡ rows
RunInTurn w log rows (c ∷ calls) last =
    (c.reply ≡ (run_on w log c.call rows).reply) × RunInTurn w log (run_on w log c.call rows).effect calls last
