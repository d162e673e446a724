-- What laws of worlds speak of: the turns among steps and what they answer, and what replicas have delivered.
use Rattle.std.specs.Prelude.{◌≡◌, ◌⊎◌, ℕ, ◌+◌, List, ◌∷◌, ◌++◌, take, slice_get, Option, Some, ◌==◌, ◌&&◌, Bool, true, false, if◌then◌else◌}
use Rattle.log_model.specs.declared.request.RequestId.{RequestId}
use Rattle.log_model.specs.Log.{Call, Log}
use Rattle.dsm_model.specs.declared.outcome.Outcome.{Outcome}
use Rattle.dsm_model.specs.declared.outcome.Outcome.TheVariants.{Begun, More, Exit}
use Rattle.dsm_model.specs.World.{World, Replica, Step, Begin, Turn, open_call}
use Rattle.log_model.specs.OpenCall.{OpenCall}

-- whether a turn with this answer ran an instruction
abbrev pub runs_further : Outcome → Bool
runs_further More = true
runs_further (Exit reply) = true
runs_further _ = false

-- whether a step is a turn of this call that ran an instruction
abbrev pub is_turn_of : ℕ → Step → Outcome → Bool
is_turn_of c (Turn d) outcome = d == c && runs_further outcome
is_turn_of c _ outcome = false

-- how many turns of this call ran an instruction, among steps with these outcomes
abbrev pub turns_of : ℕ → List Step → List Outcome → ℕ
turns_of c (step ∷ steps) (outcome ∷ outcomes) = (if is_turn_of c step outcome then 1 else 0) + turns_of c steps outcomes
turns_of c _ _ = 0

-- one of these steps is a turn of this call, and was answered Exit with this reply
pub record HasExited (c reply : ℕ) (steps : List Step) (outcomes : List Outcome) : Type 0 where
  pub at : ℕ
  pub turn : slice_get steps at ≡ Some (Turn c)
  pub exit : slice_get outcomes at ≡ Some (Exit reply)

-- one of these steps began this call, under this number
pub record IsBegun (steps : List Step) (outcomes : List Outcome) (c : ℕ) (call : Call) : Type 0 where
  pub at : ℕ
  pub replica : ℕ
  pub request : Option RequestId
  pub begin : slice_get steps at ≡ Some (Begin replica call.procedure call.args request)
  pub answer : slice_get outcomes at ≡ Some (Begun c call.snapshot)
  pub number : call.number ≡ c
  pub carried : call.request ≡ request

-- the call of a number was open before these steps, or one of them began it
abbrev pub IsCallNumbered : World → List Step → List Outcome → ℕ → Call → Type 0
IsCallNumbered before steps outcomes c call = ((o : OpenCall) × (open_call before c ≡ Some o) × (o.call ≡ call)) ⊎ IsBegun steps outcomes c call

-- what a replica has delivered
abbrev pub delivered_items : Log → Replica → Log
delivered_items log replica = take replica.position log

-- the second list begins with the first
abbrev pub IsPrefix : Log → Log → Type 0
IsPrefix first all = (more : Log) × (all ≡ first ++ more)
