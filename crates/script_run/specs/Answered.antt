-- What the calls of a script are told by a node, how its replicas end, and that all of it is said of one log.
use Rattle.std.specs.Prelude.{◌≡◌, ◌⊎◌, ℕ, List, slice_get, Option, Some, None, IfSome}
use Rattle.std.specs.Option.{option_map}
use mathlib.Core.List.{IsPrefix}
use Rattle.log_model.specs.Log.{Setting, Catalogue, by_name}
use Rattle.node_calls.specs.Asked.{AskedCall}
use Rattle.node_calls.specs.declared.answer.Answer.{Answer}
use Rattle.node_calls.specs.declared.answer.Answer.TheVariants.{NoReplica, Refused}
use Rattle.log_model.specs.declared.refusal.CallRefusal.TheVariants.{NoProcedure}
use Rattle.node.specs.Requests.{Entries, IsEndAt, IsHeard, IsNoReplica}
use Rattle.script_run.specs.declared.call.ScriptCall.{ScriptCall}
use Rattle.script_run.specs.declared.asking.MadeCall.{MadeCall}
use Rattle.script_run.specs.declared.text.ReplicaEnd.{ReplicaEnd}

-- ---- what a call of a script is told

-- the number of the procedure of a name
abbrev pub number_named : Catalogue → List ℕ → Option ℕ
number_named procedures name = option_map (λ p. p.number) (by_name procedures name)

-- what a node is asked for a call whose procedure has this number. It asks to see nothing, so no answer is `Behind`
abbrev pub asked_for : ScriptCall (List ℕ) → ℕ → AskedCall
asked_for call number = record { least = 0; procedure = number; args = call.args; request = call.request }

-- no procedure has the call's name, and nothing is asked. That there is no such replica goes first
abbrev pub IsUnnamed : ℕ → ℕ → Answer → Type 0
IsUnnamed replicas replica what =
    (IsNoReplica replicas replica × (what ≡ NoReplica))
    ⊎ ((IsNoReplica replicas replica → ⊥) × (what ≡ Refused NoProcedure))

-- what a call is told, by whether there is such a procedure, and which number it has
abbrev pub IsToldUnder : Setting → ℕ → ScriptCall (List ℕ) → Option ℕ → Answer → Option Entries → Type 0
IsToldUnder w replicas call (Some number) what seen = IsHeard w replicas call.replica (asked_for call number) what seen
IsToldUnder w replicas call None what seen = (seen ≡ None) × IsUnnamed replicas call.replica what

-- what a call of a script is told, and what its caller has seen of the log then
abbrev pub IsTold : Setting → ℕ → ScriptCall (List ℕ) → Answer → Option Entries → Type 0
IsTold w replicas call what seen = IsToldUnder w replicas call (number_named w.beginning.procedures call.name) what seen

-- ---- all of it of one log

-- it is told so by one who has seen a beginning of this log, or nothing
pub record IsToldOf (w : Setting) (replicas : ℕ) (log : Entries) (call : ScriptCall (List ℕ)) (what : Answer) : Type 0 where
  pub seen : Option Entries
  pub told : IsTold w replicas call what seen
  pub begins : IfSome seen (λ entries. IsPrefix entries log)

-- a replica has ended with a beginning of this log, of which so many entries commit
pub record IsEndOf (w : Setting) (log : Entries) (end : ReplicaEnd) : Type 0 where
  pub delivered : Entries
  pub begins : IsPrefix delivered log
  pub ended : IsEndAt w delivered end.position end.commits

-- the call at this place of a script is told so
pub record IsMade (w : Setting) (replicas : ℕ) (calls : List (ScriptCall (List ℕ))) (place : ℕ) (what : Answer) (seen : Option Entries) : Type 0 where
  pub call : ScriptCall (List ℕ)
  pub stands : slice_get calls place ≡ Some call
  pub told : IsTold w replicas call what seen

abbrev pub IsMadeCall : {J : Type 0} → Setting → ℕ → List (ScriptCall (List ℕ)) → MadeCall J → Type 0
IsMadeCall w replicas calls made = IsMade w replicas calls made.place made.answer made.seen

-- each answer is what the call at its place is told
pub record AreToldOf (w : Setting) (replicas : ℕ) (log : Entries) (calls : List (ScriptCall (List ℕ))) (answers : List Answer) : Type 0 where
  pub each : (place : ℕ) (call : ScriptCall (List ℕ)) (what : Answer) → slice_get calls place ≡ Some call → slice_get answers place ≡ Some what
      → IsToldOf w replicas log call what

-- each answer that was found so far is what the call at its place is told
pub record AreFoundOf (w : Setting) (replicas : ℕ) (log : Entries) (calls : List (ScriptCall (List ℕ))) (found : List (Option Answer)) : Type 0 where
  pub each : (place : ℕ) (call : ScriptCall (List ℕ)) (what : Answer) → slice_get calls place ≡ Some call → slice_get found place ≡ Some (Some what)
      → IsToldOf w replicas log call what
