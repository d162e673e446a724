-- How values are told from others, as the checker needs it. No clause speaks of it.
use Rattle.std.specs.Prelude.{◌≡◌, ◌⊎◌, ℕ, List, Option, refl}
use mathlib.Core.Logic.{inl, inr}
use Rattle.std.specs.Coded.{Coded, code_by, coded×, coded⊎, coded_ℕ, coded_list, coded_option}
use Rattle.std.specs.FinMap as map
use Rattle.schema.specs.Schema.{Tables}
use Rattle.schema.specs.Rows.{Rows, Writes, Key}
use Rattle.schema.specs.declared.look.Look.{Look}
use Rattle.log_model.specs.declared.verdict.Verdict.{Verdict}
use Rattle.log_model.specs.contracts.verdict.Verdict as verdict
use Rattle.log_model.specs.declared.request.RequestId.{RequestId}
use Rattle.log_model.specs.Codes.{carried_code, stored_code, call_code}
use Rattle.log_model.specs.Log.{StoredProcedure, Catalogue, DoneRequest, Beginning, Setting, Call, Item, CallItem, AdditionItem}
use Rattle.plain_replayer.specs.Report.{Report}

abbrev key_code : Coded Key
key_code = coded× coded_ℕ coded_ℕ

abbrev pub rows_code : Coded Rows
rows_code = map.code key_code (coded_list coded_ℕ)

abbrev done_code : Coded DoneRequest
done_code = code_by (ℕ × (ℕ × (ℕ × (ℕ × List ℕ)))) (coded× coded_ℕ (coded× coded_ℕ (coded× coded_ℕ (coded× coded_ℕ (coded_list coded_ℕ)))))
    (λ d. (d.request.session, (d.request.sequence, (d.reply, (d.procedure, d.args)))))
    (λ c. record { request = record { session = c.0; sequence = c.1.0 }; reply = c.1.1.0; procedure = c.1.1.1.0; args = c.1.1.1.1 })
    (λ _. refl)

abbrev beginning_code : Coded Beginning
beginning_code = code_by (Rows × (Catalogue × List DoneRequest)) (coded× rows_code (coded× (coded_list stored_code) (coded_list done_code)))
    (λ b. (b.rows, (b.procedures, b.requests)))
    (λ c. record { rows = c.0; procedures = c.1.0; requests = c.1.1 })
    (λ _. refl)

abbrev pub setting_code : Coded Setting
setting_code = code_by (Tables × (Beginning × ℕ))
    (coded× (map.code coded_ℕ coded_ℕ) (coded× beginning_code coded_ℕ))
    (λ w. (w.tables, (w.beginning, w.window)))
    (λ c. record { tables = c.0; beginning = c.1.0; window = c.1.1 })
    (λ _. refl)

abbrev look_code : Coded Look
look_code = code_by (ℕ × (ℕ × ℕ)) (coded× coded_ℕ (coded× coded_ℕ coded_ℕ)) (λ l. (l.table, (l.lo, l.hi))) (λ c. record { table = c.0; lo = c.1.0; hi = c.1.1 }) (λ _. refl)

abbrev split : Item → Call ⊎ StoredProcedure
split (CallItem c) = inl c
split (AdditionItem p) = inr p

abbrev join : Call ⊎ StoredProcedure → Item
join (inl c) = CallItem c
join (inr p) = AdditionItem p

pub join-split : (item : Item) → join (split item) ≡ item
join-split (CallItem c) = refl
join-split (AdditionItem p) = refl

abbrev pub item_code : Coded Item
item_code = code_by (Call ⊎ StoredProcedure) (coded⊎ call_code stored_code) split join join-split

abbrev pub report_code : Coded Report
report_code = code_by (Option RequestId × (ℕ × (List Look × (Writes × (Verdict × (List ℕ × Option ℕ))))))
    (coded× carried_code (coded× coded_ℕ (coded× (coded_list look_code) (coded× (map.code key_code (coded_option (coded_list coded_ℕ)))
    (coded× verdict.the_row.coded (coded× (coded_list coded_ℕ) (coded_option coded_ℕ)))))))
    (λ r. (r.request, (r.reply, (r.looks, (r.writes, (r.verdict, (r.comparisons, r.told)))))))
    (λ c. record {
      request = c.0;
      reply = c.1.0;
      looks = c.1.1.0;
      writes = c.1.1.1.0;
      verdict = c.1.1.1.1.0;
      comparisons = c.1.1.1.1.1.0;
      told = c.1.1.1.1.1.1;
    })
    (λ _. refl)
