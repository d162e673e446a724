use Rattle.std.proofs.Common.{◌≡◌, All, []}
use Rattle.script_run.proofs.asking.Asking.empty_shares.Given as goal

abbrev pub invariant-loop : goal.invariant-loop
invariant-loop g l = All (λ share. share.items ≡ []) l.shares.items
