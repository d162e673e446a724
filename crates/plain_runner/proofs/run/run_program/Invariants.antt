use Rattle.std.proofs.Common.{◌≡◌}
use Rattle.bpf_semantics.specs.State.{entry_state}
use Rattle.bpf_semantics.specs.Run.{moment}
use Rattle.plain_runner.specs.Listed.{rows_of}
use Rattle.plain_runner.specs.Runner.{moment_of}
use Rattle.plain_runner.proofs.run.run_program.Given as goal

-- the moment after so many steps
abbrev pub invariant-loop : goal.invariant-loop
invariant-loop g l = moment_of l.moment ≡ moment l.code l.schema l.counter (entry_state l.args (rows_of l.rows))
