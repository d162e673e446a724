-- What a session keeps.
use Rattle.std.specs.Prelude.{ℕ}
use Rattle.node_calls.specs.declared.answer.Answer.{Answer}
use Rattle.node_calls.specs.declared.answer.Answer.TheVariants.{Committed, Read, Cancelled, Conflict, Repeated}

-- the position that an answer tells; 0 where it tells none
abbrev pub position_told : Answer → ℕ
position_told (Committed position reply) = position
position_told (Conflict position other) = position
position_told (Repeated position earlier reply) = position
position_told (Read snapshot reply) = snapshot
position_told (Cancelled snapshot code) = snapshot
position_told _ = 0

-- how many replicas the node has, and the position that the session's next call sees at least
pub record SessionState : Type 0 where
  pub replicas : ℕ
  pub position : ℕ
