use Rattle.std.proofs.Common.{◌≡◌, ◌∙◌, length, map, ap, subst, arith}
use Rattle.script_run.specs.Answered.{AreToldOf}
use Rattle.std.proofs.lemmas.List.{length-map}
use Rattle.script_run.proofs.AnsweredLemmas.{answers_longer}
use Rattle.script_run.proofs.run.run_on_node.Goals as goal

pub returns-clause-run : goal.returns-clause-run
returns-clause-run g c =
    let w = g.J.LogSetting.setting in
    let calls = c.args.calls.items in
    let planned = map (λ p. p.call) c.in-Ok.asking.calls.items in
    let answers = c.in-Ok-answered.answers.items in
    let replicas : c.desk.result.now.replicas ≡ c.args.options.replicas = c.desk.ensures ∙ c.in-Ok-started.ensures.started.1 in
    let told = answers_longer w c.desk.result.now.replicas c.in-Ok-answered.log c.ends_of.new.log planned answers c.ends_of.ensures.log c.in-Ok-answered.ensures.told in
    let count : length planned ≡ length c.in-Ok.asking.calls.items = length-map c.in-Ok.asking.calls.items (λ p. p.call) in
    let same : length planned ≡ length calls = ap length c.in-Ok.ensures in
    let few = c.in-Ok-answered.ensures.len in
    let one = c.in-Ok-answered.answers.ok in
    let other = c.in-Ok.asking.calls.ok in
    let ended = c.in-Ok-ends_of.ensures.len in
    let third = c.in-Ok-ends_of.replicas.ok in
    let all = c.finish-finish.ensures.replicas in
    let node = c.in-Ok-started.ensures.started.1 in
    let there : length c.deref.result.now ≡ length c.finish-finish.result.replicas.items = ap length c.deref.ensures.value in
    record {
      log = c.ends_of.new.log;
      answered = omega arith;
      answers = subst (λ n. AreToldOf w n c.ends_of.new.log calls answers) replicas (subst (λ cs. AreToldOf w c.desk.result.now.replicas c.ends_of.new.log cs answers) c.in-Ok.ensures told);
      count = omega arith;
      ends = c.in-Ok-ends_of.ensures.ends;
      agrees = c.finish-finish.ensures.agree;
    }
