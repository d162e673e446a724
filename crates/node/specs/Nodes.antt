-- What contracts see of a node, and of what its callers share.
use Rattle.std.specs.Prelude.{ℕ, List}
use Rattle.node_calls.specs.Asked.{AskedCall}

pub record NodeState : Type 0 where
  pub replicas : ℕ  -- how many there are

pub record PendingState : Type 0 where
  pub replicas : ℕ  -- how many there are
  pub replica : ℕ  -- at which one calls were asked for
  pub requests : List AskedCall  -- what was asked for
