use Rattle.std.proofs.Common.{ap, sym}
use Rattle.log_model.specs.Log.{Setting}
use Rattle.plain_replayer.proofs.setting.PlainSetting.begins_empty.Goals as goal

pub returns-clause-rows : goal.returns-clause-rows
returns-clause-rows g c = ap (λ (w : Setting). w.beginning.rows) (sym c.self.view_is)

pub returns-clause-requests : goal.returns-clause-requests
returns-clause-requests g c = ap (λ (w : Setting). w.beginning.requests) (sym c.self.view_is)
