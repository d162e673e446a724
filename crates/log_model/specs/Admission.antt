-- Whether a call may begin (this product's own rules): with the procedure that it finds, its arguments and its request.
use Rattle.std.specs.Prelude.{ℕ, ◌==◌, not, if◌then◌else◌, List, length, Option, Some, None, Result, Ok, Err}
use Rattle.log_model.specs.declared.request.RequestId.{RequestId}
use Rattle.log_model.specs.declared.refusal.CallRefusal.{CallRefusal}
use Rattle.log_model.specs.declared.refusal.CallRefusal.TheVariants.{NoProcedure, ArgumentsLength, ZeroInRequest}
use Rattle.log_model.specs.OpenRequest.{has_zero}
use Rattle.log_model.specs.Log.{StoredProcedure}

-- the procedure that the call runs, or the first cause for which the call may not begin
abbrev pub admission : List ℕ → Option RequestId → Option StoredProcedure → Result StoredProcedure CallRefusal
admission args request None = Err NoProcedure
admission args request (Some p) =
    if not (p.args_len == length args) then Err ArgumentsLength
    else if has_zero request then Err ZeroInRequest
    else Ok p
