-- How requests, procedures and calls are told from others, as the checker needs it. No clause speaks of it.
use Rattle.std.specs.Prelude.{ℕ, List, Option, refl}
use Rattle.std.specs.Coded.{Coded, code_by, coded×, coded_ℕ, coded_list, coded_option}
use Rattle.bpf_code.specs.Program.{Program}
use Rattle.bpf_code.specs.contracts.instruction.Instruction as instruction
use Rattle.log_model.specs.declared.request.RequestId.{RequestId}
use Rattle.log_model.specs.Log.{StoredProcedure, DoneRequest, Call}

abbrev request_code : Coded RequestId
request_code = code_by (ℕ × ℕ) (coded× coded_ℕ coded_ℕ) (λ r. (r.session, r.sequence)) (λ c. record { session = c.0; sequence = c.1 }) (λ _. refl)

abbrev pub carried_code : Coded (Option RequestId)
carried_code = coded_option request_code

abbrev pub done_code : Coded DoneRequest
done_code = code_by (RequestId × (ℕ × (ℕ × List ℕ))) (coded× request_code (coded× coded_ℕ (coded× coded_ℕ (coded_list coded_ℕ))))
    (λ d. (d.request, (d.reply, (d.procedure, d.args))))
    (λ c. record { request = c.0; reply = c.1.0; procedure = c.1.1.0; args = c.1.1.1 })
    (λ _. refl)

abbrev pub stored_code : Coded StoredProcedure
stored_code = code_by (List ℕ × (ℕ × (Program × ℕ)))
    (coded× (coded_list coded_ℕ) (coded× coded_ℕ (coded× (coded_list (coded_option instruction.the_row.coded)) coded_ℕ)))
    (λ p. (p.name, (p.number, (p.program, p.args_len))))
    (λ c. record { name = c.0; number = c.1.0; program = c.1.1.0; args_len = c.1.1.1 })
    (λ _. refl)

abbrev pub call_code : Coded Call
call_code = code_by (ℕ × (ℕ × (List ℕ × (ℕ × Option RequestId))))
    (coded× coded_ℕ (coded× coded_ℕ (coded× (coded_list coded_ℕ) (coded× coded_ℕ carried_code))))
    (λ c. (c.number, (c.procedure, (c.args, (c.snapshot, c.request)))))
    (λ c. record { number = c.0; procedure = c.1.0; args = c.1.1.0; snapshot = c.1.1.1.0; request = c.1.1.1.1 })
    (λ _. refl)
