-- How values are told from others, as the checker needs it. No clause speaks of it.
use Rattle.std.specs.Prelude.{List, refl}
use Rattle.std.specs.Coded.{Coded, code_by, coded×, coded_list}
use Rattle.schema.specs.Rows.{Rows}
use Rattle.plain_replayer.specs.Report.{Report}
use Rattle.plain_replayer.specs.LogCodes.{rows_code, report_code}
use Rattle.plain_replayer.specs.Replay.{Replay}

abbrev pub replay_code : Coded Replay
replay_code = code_by (List Report × List Rows) (coded× (coded_list report_code) (coded_list rows_code))
    (λ r. (r.reports, r.rows)) (λ c. record { reports = c.0; rows = c.1 }) (λ _. refl)
