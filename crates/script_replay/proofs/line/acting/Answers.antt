use Rattle.script_replay.proofs.DoneLemmas.{fault_of_first, acting_at}
use Rattle.script_replay.proofs.line.acting.Goals as goal

pub returns-in-SettingUp-clause-fault : goal.returns-in-SettingUp-clause-fault
returns-in-SettingUp-clause-fault g c = fault_of_first c.args.number c.args.stage c.in-SettingUp.settings c.set_up.result c.in-SettingUp.is c.set_up.ensures.fault

pub returns-in-Acting-clause-ok : goal.returns-in-Acting-clause-ok
returns-in-Acting-clause-ok g c = acting_at c.args.stage c.in-Acting.world c.in-Acting.is
