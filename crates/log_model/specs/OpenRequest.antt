-- The request of a call, or none.
use Rattle.std.specs.Prelude.{ℕ, ◌==◌, ◌&&◌, ◌||◌, Bool, false, if◌then◌else◌, Option, Some, None}
use Rattle.log_model.specs.declared.request.RequestId.{RequestId}

-- that of two numbers, a session and a number of it: 0 and 0 is none
abbrev pub given_request : ℕ → ℕ → Option RequestId
given_request session sequence = if session == 0 && sequence == 0 then None else Some (record { session = session; sequence = sequence })

-- its session or its number is 0
abbrev pub has_zero : Option RequestId → Bool
has_zero None = false
has_zero (Some request) = request.session == 0 || request.sequence == 0
