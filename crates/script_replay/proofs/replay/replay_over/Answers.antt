use Rattle.script_replay.specs.Replay.{ScriptPrints}
use Rattle.script.proofs.TellingLemmas.{if_known}
use Rattle.script_replay.proofs.WrittenLemmas.{told_finished, told_stopped, told_failed}
use Rattle.script_replay.proofs.replay.replay_over.Goals as goal

pub returns-in-Ok-clause-told : goal.returns-in-Ok-clause-told
returns-in-Ok-clause-told g c = if_known (g.R.Read.remaining c.args.input.now) _ (λ bytes known.
    told_finished _ _ (g.E.Write.contents c.args.faults.now) (ScriptPrints bytes) (c.in-Ok.ensures.written bytes known))

pub returns-in-Err-clause-told : goal.returns-in-Err-clause-told
returns-in-Err-clause-told g c = if_known (g.R.Read.remaining c.args.input.now) _ (λ bytes known.
    told_stopped _ _ _ _ (ScriptPrints bytes) c.in-Err.stop c.tell.result (c.in-Err.ensures.written bytes known) c.tell.ensures.said)

pub returns-in-Ok-clause-failed : goal.returns-in-Ok-clause-failed
returns-in-Ok-clause-failed g c = if_known (g.R.Read.remaining c.args.input.now) _ (λ bytes known failed. absurd cc)

pub returns-in-Err-clause-failed : goal.returns-in-Err-clause-failed
returns-in-Err-clause-failed g c = if_known (g.R.Read.remaining c.args.input.now) _ (λ bytes known failed.
    told_failed bytes _ _ _ _ _ c.in-Err.stop c.tell.result (c.in-Err.ensures.wanted bytes known) c.tell.ensures.said failed)
