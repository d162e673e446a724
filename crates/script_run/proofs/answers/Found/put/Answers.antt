use Rattle.script_run.proofs.AnsweredLemmas.{found_longer, found_put}
use Rattle.script_run.proofs.answers.Found.put.Goals as goal

pub returns-then-made-len-clause-found : goal.returns-then-made-len-clause-found
returns-then-made-len-clause-found g c replicas calls before made =
    found_put g.J.LogSetting.setting replicas c.extend_by.new.log calls c.args.self.now.answers.items c.args.made.now.place c.args.made.now.answer c.args.made.now.seen
    (found_longer g.J.LogSetting.setting replicas c.args.self.now.log c.extend_by.new.log calls c.args.self.now.answers.items c.extend_by.ensures.log before)
    made c.extend_by.ensures.seen

pub returns-else-made-len-clause-found : goal.returns-else-made-len-clause-found
returns-else-made-len-clause-found g c replicas calls before made =
    found_longer g.J.LogSetting.setting replicas c.args.self.now.log c.extend_by.new.log calls c.args.self.now.answers.items c.extend_by.ensures.log before
