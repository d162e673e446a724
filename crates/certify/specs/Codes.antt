-- How what is kept is told from other values, as the checker needs it. No clause speaks of it.
use Rattle.std.specs.Prelude.{ℕ, List, Option, refl}
use Rattle.std.specs.Coded.{Coded, code_by, coded×, coded_ℕ, coded_list, coded_option}
use Rattle.std.specs.FinMap.{code}
use Rattle.schema.specs.Rows.{Writes}
use Rattle.log_model.specs.declared.request.RequestId.{RequestId}
use Rattle.log_model.specs.Codes.{carried_code}
use Rattle.certify.specs.Kept.{PreparedCall, Ring, Memory, CertifierState}

abbrev writes_code : Coded Writes
writes_code = code (coded× coded_ℕ coded_ℕ) (coded_option (coded_list coded_ℕ))

abbrev pub prepared_code : Coded PreparedCall
prepared_code = code_by (Option RequestId × (List ℕ × Writes)) (coded× carried_code (coded× (coded_list coded_ℕ) writes_code))
    (λ p. (p.request, (p.signature, p.writes))) (λ c. record { request = c.0; signature = c.1.0; writes = c.1.1 }) (λ _. refl)

abbrev ring_code : Coded Ring
ring_code = code_by (List (List (List ℕ)) × List Writes) (coded× (coded_list (coded_list (coded_list coded_ℕ))) (coded_list writes_code))
    (λ r. (r.blocks, r.writes)) (λ c. record { blocks = c.0; writes = c.1 }) (λ _. refl)

abbrev memory_code : Coded Memory
memory_code = code_by (ℕ × (ℕ × (Ring × List (ℕ × ℕ)))) (coded× coded_ℕ (coded× coded_ℕ (coded× ring_code (coded_list (coded× coded_ℕ coded_ℕ)))))
    (λ m. (m.window, (m.count, (m.ring, m.requests)))) (λ c. record { window = c.0; count = c.1.0; ring = c.1.1.0; requests = c.1.1.1 }) (λ _. refl)

abbrev pub state_code : Coded CertifierState
state_code = code_by (Memory × (ℕ × ℕ)) (coded× memory_code (coded× coded_ℕ coded_ℕ))
    (λ s. (s.memory, (s.compared, s.room))) (λ c. record { memory = c.0; compared = c.1.0; room = c.1.1 }) (λ _. refl)
