use Rattle.std.proofs.Common.{◌∙◌}
use Rattle.dsm_world.specs.System.{world_of}
use Rattle.script_replay.proofs.PrintedLemmas.{told_again, told_before}
use Rattle.script_replay.proofs.answers.repeated_reply.Goals as goal

pub returns-then-earlier-eq0 : goal.returns-then-earlier-eq0
returns-then-earlier-eq0 g c = c.reply_before.ensures ∙ told_before c.args.world.now (world_of c.args.world.now).log c.args.position c.args.earlier c.if-earlier-eq0.true

pub returns : goal.returns
returns g c = c.reply_at.ensures ∙ told_again c.args.world.now (world_of c.args.world.now).log c.args.position c.args.earlier c.if-earlier-eq0.false
