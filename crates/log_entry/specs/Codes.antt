-- How entries are told from others, as the checker needs it. No clause speaks of it.
use Rattle.std.specs.Prelude.{ℕ, List, refl}
use Rattle.std.specs.Coded.{Coded, code_by, coded×, coded_ℕ, coded_list, coded_option}
use Rattle.std.specs.FinMap.{code}
use Rattle.schema.specs.declared.look.Look.{Look}
use Rattle.schema.specs.Rows.{Writes}
use Rattle.row_sets.specs.Codes.{looks_code}
use Rattle.log_model.specs.Log.{Call}
use Rattle.log_model.specs.Codes.{call_code}
use Rattle.log_model.specs.Entries.{ExecutedCall}

abbrev pub executed_code : Coded ExecutedCall
executed_code = code_by (Call × (List Look × (Writes × ℕ)))
    (coded× call_code (coded× looks_code (coded× (code (coded× coded_ℕ coded_ℕ) (coded_option (coded_list coded_ℕ))) coded_ℕ)))
    (λ e. (e.call, (e.looks, (e.writes, e.reply))))
    (λ c. record { call = c.0; looks = c.1.0; writes = c.1.1.0; reply = c.1.1.1 }) (λ _. refl)
