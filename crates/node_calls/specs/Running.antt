-- A call that an executing thread runs on the rows after what it has seen.
use Rattle.std.specs.Prelude.{◌≡◌, ℕ, Bool, List, Option, length, refl}
use Rattle.std.specs.Coded.{Coded, code_by, coded×, coded_list, coded_ℕ}
use Rattle.bpf_vm.specs.declared.turn.Turn.{Turn}
use Rattle.bpf_vm.specs.contracts.turn.Turn as turn
use Rattle.log_model.specs.declared.request.RequestId.{RequestId}
use Rattle.log_model.specs.Log.{Setting, Call, Log, moment_at, procedure_of}
use Rattle.log_model.specs.Entries.{items_of}
use Rattle.log_model.specs.Codes.{call_code}
use Rattle.log_entry.specs.declared.entry.Entry.{Entry as LogEntry}
use Rattle.order_log.specs.Codes.{entry_code}
use Rattle.log_model.specs.OpenCall.{OpenCall, at_row_helper}
use Rattle.replica.specs.Replica.{entries_of}
use Rattle.locked_replica.specs.Begun.{BegunState}
use Rattle.world_calls.specs.OpenCall.{Follows}
use Rattle.world_calls.specs.declared.open_call.OpenCall.{OpenCall as OpenCallState}

-- a call of a node: it has no number, and its snapshot is what it has seen
abbrev pub node_call : ℕ → List ℕ → ℕ → Option RequestId → Call
node_call procedure args snapshot request = record { number = 0; procedure = procedure; args = args; snapshot = snapshot; request = request }

pub record RunningState (A : Type 0) : Type 0 where
  pub entries : List (LogEntry A)  -- what it has seen
  pub progress : OpenCall
  pub last : Turn  -- what its last turn answered, and before the first that there is more

-- what it has seen, as a log
abbrev pub log_seen : {A : Type 0} → List (LogEntry A) → Log
log_seen entries = items_of (entries_of entries)

-- it follows its run on the rows after what it has seen
pub record IsUnderWay {A : Type 0} (w : Setting) (b : BegunState A) (c : OpenCallState A) : Type 0 where
  pub follows : Follows w (log_seen b.entries) c
  pub procedure : c.procedure ≡ b.procedure
  pub snapshot : c.snapshot ≡ length b.entries

-- whether its next instruction calls a helper that reads or writes rows
abbrev pub calls_row_helper_next : {A : Type 0} → Setting → RunningState A → Bool
calls_row_helper_next w r =
    at_row_helper (procedure_of w (log_seen r.entries) r.progress.call) (moment_at w (log_seen r.entries) r.progress.call r.progress.turns)

-- ---- how it is told from others, as the checker needs it

abbrev open_call_code : Coded OpenCall
open_call_code = code_by (ℕ × (Call × ℕ)) (coded× coded_ℕ (coded× call_code coded_ℕ))
    (λ o. (o.replica, (o.call, o.turns))) (λ c. record { replica = c.0; call = c.1.0; turns = c.1.1 }) (λ _. refl)

abbrev pub running_code : {A : Type 0} → Coded (RunningState A)
running_code {A} = code_by (List (LogEntry A) × (OpenCall × Turn)) (coded× (coded_list entry_code) (coded× open_call_code turn.the_row.coded))
    (λ r. (r.entries, (r.progress, r.last))) (λ c. record { entries = c.0; progress = c.1.0; last = c.1.1 }) (λ _. refl)
