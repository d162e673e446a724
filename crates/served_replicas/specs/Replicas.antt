-- How many replicas a node has; they are numbered from 1 on.
use Rattle.std.specs.Prelude.{◌≡◌, ◌⊎◌, ◌<◌, ℕ}

pub record SharedState : Type 0 where
  pub replicas : ℕ  -- how many there are

-- there is no replica of this number
abbrev pub IsNoReplica : ℕ → ℕ → Type 0
IsNoReplica replicas number = (number ≡ 0) ⊎ (replicas < number)
