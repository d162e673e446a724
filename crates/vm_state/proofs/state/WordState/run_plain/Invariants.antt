use Rattle.std.proofs.Common.{◌-◌, ◌≤◌, length}
use Rattle.schema.specs.Schema.{Tables}
use Rattle.bpf_semantics.specs.State.{State}
use Rattle.flat_code.specs.Flat.{LaidOut}
use Rattle.vm_state.specs.Words.{Holds}
use Rattle.vm_state.specs.Access.{at_slot}
use Rattle.vm_state.specs.Plain.{IsNeverStuck, CanRunOn, Reaches}
use Rattle.vm_state.proofs.state.WordState.run_plain.Given as goal

abbrev pub invariant-loop-second : goal.invariant-loop-second
invariant-loop-second g l = record {
  laid : LaidOut l.code l.layout;
  short : length l.code ≤ 4096;
  can : CanRunOn l.code (at_slot l.at l.self);
  reaches : (tables : Tables) (s : State) → Holds s l.fn.self → IsNeverStuck l.code tables s → Reaches l.code tables s l.count (at_slot l.at l.self);
  few : l.count ≤ l.at;
}

abbrev pub decreases-loop-second : goal.decreases-loop-second
decreases-loop-second g l = length l.layout - l.at
