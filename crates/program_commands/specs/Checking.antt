-- What `check` says of a program's bytes, the length of its arguments and its tables: the line and the exit status.
use Rattle.std.specs.Prelude.{◌≡◌, ℕ, List, ◌++◌, codes, length, Result, Ok, Err}
use Rattle.std.specs.Fmt.{decimal}
use Rattle.schema.specs.declared.fault.SchemaFault.{SchemaFault}
use Rattle.schema.specs.Schema.{Tables, fault_text}
use Rattle.bpf_bytes.specs.declared.fault.DecodeFault.{DecodeFault}
use Rattle.bpf_code.specs.Program.{Program}
use Rattle.bpf_semantics.specs.Path.{longest_path}
use Rattle.bpf_verify.specs.declared.refusal.Refusal.TheVariants.{At}
use Rattle.bpf_verify.specs.Flow.{Procedure, IsAccepted, IsRefused}
use Rattle.bpf_verify.specs.Refusal.{refusal_text}
use Rattle.program_commands.specs.declared.verdict.CheckVerdict.{CheckVerdict}
use Rattle.program_commands.specs.declared.verdict.CheckVerdict.TheVariants.{Accepted, NoSchema, NoProgram, Refused}
use Rattle.program_commands.specs.Listing.{refused_text}

-- a program of the schema's tables: it is accepted, or refused at its lowest slot for its lowest cause
abbrev pub IsOutcomeOf : Procedure → CheckVerdict → Type 0
IsOutcomeOf p (Accepted slots bound) = IsAccepted p × (slots ≡ length p.program) × (bound ≡ longest_path p.program)
IsOutcomeOf p (Refused slot cause) = IsRefused p slot cause
IsOutcomeOf p _ = ⊥

-- the schema's fault comes first, then the bytes'
abbrev pub IsVerdictOf : ℕ → Result Tables SchemaFault → Result Program DecodeFault → CheckVerdict → Type 0
IsVerdictOf args_len (Err fault) program v = v ≡ NoSchema fault
IsVerdictOf args_len (Ok tables) (Err fault) v = v ≡ NoProgram fault
IsVerdictOf args_len (Ok tables) (Ok p) v = IsOutcomeOf (record { program = p; tables = tables; args_len = args_len }) v

-- the verdict is one of which this is true
abbrev pub OfVerdict : ℕ → Result Tables SchemaFault → Result Program DecodeFault → (CheckVerdict → Type 0) → Type 0
OfVerdict args_len tables program P = (v : CheckVerdict) × IsVerdictOf args_len tables program v × P v

-- one line, as `accepted slots 17 bound 17`, `refused S3`, `refused B10 slot 0` or `refused V4 slot 1`
abbrev pub verdict_text : CheckVerdict → List ℕ
verdict_text (Accepted slots bound) = codes "accepted slots " ++ decimal slots ++ codes " bound " ++ decimal bound ++ codes "\n"
verdict_text (NoSchema fault) = codes "refused " ++ fault_text fault ++ codes "\n"
verdict_text (NoProgram fault) = refused_text fault
verdict_text (Refused slot cause) = codes "refused " ++ refusal_text (At slot cause) ++ codes "\n"

abbrev pub verdict_status : CheckVerdict → ℕ
verdict_status (Accepted slots bound) = 0
verdict_status _ = 1
