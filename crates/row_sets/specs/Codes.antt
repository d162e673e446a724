-- How looks are told from others, as the checker needs it. No clause speaks of it.
use Rattle.std.specs.Prelude.{ℕ, List, refl}
use Rattle.std.specs.Coded.{Coded, code_by, coded×, coded_ℕ, coded_list}
use Rattle.schema.specs.declared.look.Look.{Look}

abbrev pub looks_code : Coded (List Look)
looks_code = coded_list (code_by (ℕ × (ℕ × ℕ)) (coded× coded_ℕ (coded× coded_ℕ coded_ℕ))
    (λ l. (l.table, (l.lo, l.hi))) (λ c. record { table = c.0; lo = c.1.0; hi = c.1.1 }) (λ _. refl))
