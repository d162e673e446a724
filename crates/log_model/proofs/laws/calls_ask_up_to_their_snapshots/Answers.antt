use Rattle.log_model.proofs.GrowthLemmas.{is_call_grown, is_call_before}
use Rattle.log_model.proofs.CarryLemmas.{carries_grown, carries_before}
use Rattle.log_model.proofs.laws.calls_ask_up_to_their_snapshots.Goals as goal

pub returns-clause-is_call : goal.returns-clause-is_call
returns-clause-is_call c w log more call le = (is_call_before w log more call le, is_call_grown w log more call le)

pub returns-clause-run : goal.returns-clause-run
returns-clause-run c w log more e le = (carries_before w log more e le, carries_grown w log more e le)
