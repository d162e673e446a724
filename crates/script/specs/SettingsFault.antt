-- The faults that end a script, and how they are printed.
use Rattle.std.specs.Prelude.{ℕ, List, ◌++◌, codes}
use Rattle.std.specs.Fmt.{decimal}
use Rattle.schema.specs.Schema as schema
use Rattle.bpf_bytes.specs.Fault as decoding
use Rattle.bpf_verify.specs.Refusal.{refusal_text}
use Rattle.catalogue.specs.Fault as catalogue
use Rattle.script.specs.declared.fault.LineFault.{LineFault}
use Rattle.script.specs.declared.fault.LineFault.TheVariants as line
use Rattle.script.specs.Fault.{number_of_line_fault}
use Rattle.script.specs.declared.cause.FaultCause.{FaultCause}
use Rattle.script.specs.declared.cause.FaultCause.TheVariants.{Line, Place, Table, Program, Refused, Procedure, NoMemory, Row, Request, Session}
use Rattle.script.specs.declared.cause.ScriptFault.{ScriptFault}

abbrev pub cause_of_line_fault : LineFault → FaultCause
cause_of_line_fault line.NoMemory = NoMemory
cause_of_line_fault fault = Line fault

-- as `L4`, `L6 S1`, `L7 V5 slot 6`, `L8 C4` or `L10 D1`
abbrev pub cause_text : FaultCause → List ℕ
cause_text (Line fault) = codes "L" ++ decimal (number_of_line_fault fault)
cause_text Place = codes "L5"
cause_text (Table fault) = codes "L6 " ++ schema.fault_text fault
cause_text (Program fault) = codes "L7 " ++ decoding.fault_text fault
cause_text (Refused refusal) = codes "L7 " ++ refusal_text refusal
cause_text (Procedure fault) = codes "L8 " ++ catalogue.fault_text fault
cause_text NoMemory = codes "L9"
cause_text (Row fault) = codes "L10 " ++ catalogue.row_fault_text fault
cause_text (Request fault) = codes "L11 " ++ catalogue.request_fault_text fault
cause_text Session = codes "L11 Q2"

-- as `line 4: L7 V5 slot 6`
abbrev pub script_fault_text : ScriptFault → List ℕ
script_fault_text fault = codes "line " ++ decimal fault.line ++ codes ": " ++ cause_text fault.cause
