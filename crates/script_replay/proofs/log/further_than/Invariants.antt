use Rattle.std.proofs.Common.{◌≡◌, nat_lt, drop}
use Rattle.std.specs.List.{find}
use Rattle.script_replay.proofs.log.further_than.Given as goal

-- the first of all is the first of those that are left
abbrev pub invariant-loop-kept : goal.invariant-loop-kept
invariant-loop-kept g l =
    find (λ kept. nat_lt l.position kept.position) (drop l.kept-index l.replicas) ≡ find (λ kept. nat_lt l.position kept.position) l.replicas
