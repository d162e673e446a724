-- The state of the plain runner and that of the definitions.
use Rattle.plain_runner.specs.declared.state.State as rust
use Rattle.bpf_semantics.specs.State.{State}

-- the state that the runner holds
abbrev pub state_of : {A : Type 0} → rust.State A → State
state_of s = record {
  slot = s.slot;
  registers = s.registers;
  stack = s.stack.items;
  args = s.args.items;
  rows = s.rows;
  cancel_code = s.cancel_code;
  looks = s.looks.items;
  writes = s.writes;
  steps = s.steps;
}
