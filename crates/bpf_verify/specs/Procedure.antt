-- How a procedure is told from others, as the checker needs it. No clause speaks of it.
use Rattle.std.specs.Prelude.{ℕ, refl}
use Rattle.std.specs.Coded.{Coded, code_by, coded×, coded_ℕ, coded_list, coded_option}
use Rattle.std.specs.FinMap as map
use Rattle.bpf_code.specs.Program.{Program}
use Rattle.bpf_code.specs.contracts.instruction.Instruction as instruction
use Rattle.schema.specs.Schema.{Tables}
use Rattle.bpf_verify.specs.Flow.{Procedure}

abbrev pub procedure_code : Coded Procedure
procedure_code = code_by (Program × (Tables × ℕ))
    (coded× (coded_list (coded_option instruction.the_row.coded)) (coded× (map.code coded_ℕ coded_ℕ) coded_ℕ))
    (λ p. (p.program, (p.tables, p.args_len)))
    (λ c. record { program = c.0; tables = c.1.0; args_len = c.1.1 })
    (λ _. refl)
