use Rattle.std.proofs.Common.{◌≡◌}
use Rattle.std.specs.List.{fold, zip}
use Rattle.abs_state.specs.State.{kind_of}
use Rattle.abs_step.specs.Result.{with_buffer, with_buffers, written_length}
use Rattle.abs_step.proofs.calls.set_buffers.Given as goal

-- the buffers so far and those that are left make all, and no register changes
abbrev pub invariant-loop-argument : goal.invariant-loop-argument
invariant-loop-argument g l = record {
  told : fold (λ after a. with_buffer after (kind_of l.fn.state a.1) (written_length l.width a.0)) l.state (zip l.argument-iterator.a.rest.now l.argument-iterator.b.rest.now) ≡ with_buffers l.schema l.fn.helper l.fn.state;
  kinds : l.state.kinds ≡ l.fn.state.kinds;
}
