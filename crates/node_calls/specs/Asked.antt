-- What is asked of a node.
use Rattle.std.specs.Prelude.{ℕ, List, Option, refl}
use Rattle.std.specs.Coded.{Coded, code_by, coded×, coded_ℕ, coded_list, coded_option}
use Rattle.log_model.specs.declared.request.RequestId.{RequestId}
use Rattle.log_model.specs.contracts.request.RequestId as request

-- a call of a procedure, which may see no less of the log than some position, and may carry a request
pub record AskedCall : Type 0 where
  pub least : ℕ
  pub procedure : ℕ
  pub args : List ℕ
  pub request : Option RequestId

abbrev pub asked_code : Coded AskedCall
asked_code = code_by (ℕ × (ℕ × (List ℕ × Option RequestId))) (coded× coded_ℕ (coded× coded_ℕ (coded× (coded_list coded_ℕ) (coded_option request.the_row.coded))))
    (λ a. (a.least, (a.procedure, (a.args, a.request))))
    (λ c. record { least = c.0; procedure = c.1.0; args = c.1.1.0; request = c.1.1.1 })
    (λ _. refl)
