-- The threads of a node.
use Rattle.std.specs.Prelude.{ℕ}

pub record CrewState : Type 0 where
  pub executors : ℕ  -- how many answer calls
