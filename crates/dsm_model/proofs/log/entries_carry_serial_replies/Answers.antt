use Rattle.dsm_model.proofs.ToldLemmas.{entry_carries, entry_reply}
use Rattle.dsm_model.proofs.log.entries_carry_serial_replies.Goals as goal

pub returns-clause-carried : goal.returns-clause-carried
returns-clause-carried c = entry_carries

pub returns-clause-serial : goal.returns-clause-serial
returns-clause-serial c = entry_reply
