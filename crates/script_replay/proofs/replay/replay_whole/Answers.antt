use Rattle.std.proofs.Common.{sym, ◌∙◌, rules}
use Rattle.script_replay.specs.Replay.{ScriptPrints}
use Rattle.script_replay.proofs.WrittenLemmas.{lost, finished, unfinished, wants_put_out, wants_of_failed}
use Rattle.script_replay.proofs.replay.replay_whole.Goals as goal

pub returns-then-has_output_failed-clause-written : goal.returns-then-has_output_failed-clause-written
returns-then-has_output_failed-clause-written g c = λ bytes known.
    lost g.W.Write.contents c.new-pages.result c.replay-ended.new.output c.args.output.now (ScriptPrints bytes) c.new-pages.ensures.untouched c.new-pages.ensures.empty
    c.replay-ended.result _ (search rules) (sym c.has_output_failed.ensures ∙ c.if-has_output_failed.true) (c.replay-ended.ensures.replayed bytes known)

pub returns-in-Ok-clause-written : goal.returns-in-Ok-clause-written
returns-in-Ok-clause-written g c = λ bytes known.
    finished g.W.Write.contents c.new-pages.result c.replay-ended.new.output c.args.output.now (ScriptPrints bytes) c.new-pages.ensures.untouched c.new-pages.ensures.empty
    c.replay-ended.result _ _ (search rules) c.in-Ok.ensures (c.replay-ended.ensures.replayed bytes known)

pub returns-in-Err-clause-written : goal.returns-in-Err-clause-written
returns-in-Err-clause-written g c = λ bytes known.
    unfinished g.W.Write.contents c.new-pages.result c.replay-ended.new.output c.args.output.now (ScriptPrints bytes) c.new-pages.ensures.untouched c.new-pages.ensures.empty
    c.replay-ended.result _ _ (search rules) c.in-Err.ensures (c.replay-ended.ensures.replayed bytes known)

pub returns-then-has_output_failed-clause-wanted : goal.returns-then-has_output_failed-clause-wanted
returns-then-has_output_failed-clause-wanted g c = λ bytes known.
    wants_of_failed bytes _ _ _ c.replay-ended.result (sym c.has_output_failed.ensures ∙ c.if-has_output_failed.true)

pub returns-in-Ok-clause-wanted : goal.returns-in-Ok-clause-wanted
returns-in-Ok-clause-wanted g c = λ bytes known.
    wants_put_out g.W.Write.contents c.new-pages.result c.replay-ended.new.output c.args.output.now (ScriptPrints bytes) c.new-pages.ensures.untouched c.new-pages.ensures.empty
    bytes _ _ _ c.replay-ended.result (search rules) c.in-Ok.ensures (c.replay-ended.ensures.wanted bytes known)
