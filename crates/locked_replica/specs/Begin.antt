-- How a call begins at a replica.
use Rattle.std.specs.Prelude.{◌≡◌, ◌<◌, ◌≤◌, ℕ, false, List, length, Option, Err}
use Rattle.log_model.specs.declared.request.RequestId.{RequestId}
use Rattle.log_model.specs.Log.{Setting}
use Rattle.log_model.specs.OpenRequest.{has_zero}
use Rattle.log_model.specs.Admission.{admission}
use Rattle.replica.specs.Replica.{AreEntriesOf, entries_of}
use Rattle.locked_replica.specs.Locked.{LockedState}
use Rattle.locked_replica.specs.Begun.{procedure_now}
use Rattle.locked_replica.specs.declared.begin.Begin.{Begin as BeginAnswer}
use Rattle.locked_replica.specs.declared.begin.Begin.TheVariants.{Behind, Refused, Begun}

-- a call that may not begin below a least position is behind exactly where the replica is below that; else it sees what the
-- replica has, and isn't admitted after that, or it begins: with as many bytes of arguments as its program takes, and no request
-- or a whole one
abbrev pub Begins : {J : _} {A : Type 0} → Setting → LockedState A → ℕ → ℕ → List ℕ → Option RequestId → BeginAnswer J A → Type 0
Begins w l least procedure args request Behind = length l.entries < least
Begins w l least procedure args request (Refused refusal seen) =
    (least ≤ length l.entries) × (seen ≡ l.entries) × AreEntriesOf w (entries_of seen)
    × (admission args request (procedure_now w seen procedure) ≡ Err refusal)
Begins w l least procedure args request (Begun call) =
    (least ≤ length l.entries) × (call.entries ≡ l.entries) × (call.procedure ≡ procedure)
    × (length args ≡ call.accepted.args_len) × (has_zero request ≡ false)
