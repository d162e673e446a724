-- A call that isn't over, and what its next instruction does.
use Rattle.std.specs.Prelude.{ℕ, ◌+◌, ◌==◌, Bool, true, false, not, length, Option, Some, None}
use Rattle.bpf_code.specs.declared.instruction.Instruction.{Instruction}
use Rattle.bpf_code.specs.declared.instruction.Instruction.TheVariants.{Call as CallInstruction}
use Rattle.bpf_code.specs.Program.{instruction_at}
use Rattle.schema.specs.Helper.{helper_of}
use Rattle.schema.specs.declared.helper.Helper.{Helper}
use Rattle.schema.specs.declared.helper.Helper.TheVariants.{Cancel}
use Rattle.bpf_semantics.specs.Step.{Moment, Going}
use Rattle.bpf_semantics.specs.Agree.{looks_of}
use Rattle.log_model.specs.Log.{StoredProcedure, Setting, Call, Log, moment_at}

pub record OpenCall : Type 0 where
  pub replica : ℕ  -- its number
  pub call : Call
  pub turns : ℕ  -- how many instructions it has run

-- whether the next instruction looks at rows
abbrev pub makes_look : Setting → Log → OpenCall → Bool
makes_look w log o = not (length (looks_of (moment_at w log o.call (o.turns + 1))) == length (looks_of (moment_at w log o.call o.turns)))

abbrev pub is_row_helper : Option Helper → Bool
is_row_helper None = false
is_row_helper (Some Cancel) = false
is_row_helper (Some _) = true

abbrev pub calls_row_helper : Option Instruction → Bool
calls_row_helper (Some (CallInstruction number)) = is_row_helper (helper_of number)
calls_row_helper _ = false

-- whether the next instruction calls one of the helpers that read or write rows
abbrev pub at_row_helper : Option StoredProcedure → Moment → Bool
at_row_helper (Some p) (Going s) = calls_row_helper (instruction_at p.program s.slot)
at_row_helper _ _ = false
