-- A call that was answered without being ordered, and byte strings that ask the same.
use Rattle.std.specs.Prelude.{◌≡◌, ℕ, ◌+◌, ◌≤◌, List, length, Some}
use Rattle.log_model.specs.declared.request.RequestId.{RequestId}
use Rattle.log_model.specs.Log.{Call, StoredProcedure, by_name, procedures_after}
use Rattle.site_model.specs.declared.origin.Origin.{Origin}
use Rattle.site_model.specs.Sessions.{Sessions}
use Rattle.site_model.specs.Standing.{SiteSetting}
use Rattle.site_model.specs.Order.{Order, order_log}
use Rattle.site_model.specs.Answer.{Asked}
use Rattle.site_model.specs.declared.answer.CallAnswer.{CallAnswer}
use Rattle.site_model.specs.declared.answer.CallAnswer.TheVariants.{Read, Cancelled}

-- it read, or cancelled
abbrev pub IsSettled : CallAnswer (List ℕ) → Type 0
IsSettled (Read position reply) = Unit {0}
IsSettled (Cancelled position code) = Unit {0}
IsSettled answer = ⊥

-- a call of the procedure that has the name behind an order, with the same arguments, on rows that aren't newer
pub record AsksTheSame (s : SiteSetting) (order : Order) (asked : Asked) (call : Call) : Type 0 where
  pub procedure : StoredProcedure
  pub named : by_name (procedures_after s.setting (order_log s order) (length order)) asked.name ≡ Some procedure
  pub number : call.procedure ≡ procedure.number
  pub args : call.args ≡ asked.args
  pub snapshot : call.snapshot ≤ length order

-- a call of the same procedure with the same arguments, on rows that aren't newer
pub record AsksAgain (first second : Call) : Type 0 where
  pub procedure : second.procedure ≡ first.procedure
  pub args : second.args ≡ first.args
  pub snapshot : second.snapshot ≤ first.snapshot

-- its session has a number that was given before the order or in it
abbrev pub WasNumbered : Origin → Sessions → RequestId → Type 0
WasNumbered origin known request = request.session ≤ origin.sessions + known.opened
