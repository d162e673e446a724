-- What is replied to a request.
use Rattle.std.specs.Prelude.{ℕ, List, Option, refl}
use Rattle.std.specs.Coded.{Coded, code_by, coded×, coded_ℕ, coded_list, coded_option}
use Rattle.log_entry.specs.declared.entry.Entry.{Entry as LogEntry}
use Rattle.order_log.specs.Codes.{entry_code}
use Rattle.node_calls.specs.Asked.{AskedCall, asked_code}
use Rattle.node_calls.specs.declared.answer.Answer.{Answer}
use Rattle.node_calls.specs.contracts.answer.Answer as answer

-- a reply names what was asked, and where
pub record ReplyState (A : Type 0) : Type 0 where
  pub replica : ℕ
  pub asked : AskedCall
  pub answer : Answer
  pub seen : Option (List (LogEntry A))

abbrev pub reply_code : {A : Type 0} → Coded (ReplyState A)
reply_code {A} = code_by (ℕ × (AskedCall × (Answer × Option (List (LogEntry A)))))
    (coded× coded_ℕ (coded× asked_code (coded× answer.the_row.coded (coded_option (coded_list entry_code)))))
    (λ r. (r.replica, (r.asked, (r.answer, r.seen))))
    (λ c. record { replica = c.0; asked = c.1.0; answer = c.1.1.0; seen = c.1.1.1 })
    (λ _. refl)
