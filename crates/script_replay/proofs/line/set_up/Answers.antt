use Rattle.std.proofs.Common.{sym, ◌∙◌}
use Rattle.script_replay.specs.Actions.{setting_of, world_of}
use Rattle.script_replay.proofs.DoneLemmas.{set_up_acts}
use Rattle.script_replay.proofs.line.set_up.Goals as goal

pub returns-in-Ok-clause-ok : goal.returns-in-Ok-clause-ok
returns-in-Ok-clause-ok g c = λ d.
    set_up_acts c.args.settings c.args.settings.window c.args.settings.replicas c.into_catalogue.result c.in-Some.window c.in-Some-replicas.replicas (setting_of c.in-Ok.world) (world_of c.in-Ok.world) d
    (sym c.window.ensures.window ∙ c.in-Some.is) (sym c.replicas.ensures.replicas ∙ c.in-Some-replicas.is) c.into_catalogue.ensures c.in-Ok.ensures.setting c.in-Ok.ensures.first
