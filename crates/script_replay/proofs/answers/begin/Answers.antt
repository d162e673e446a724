use Rattle.std.proofs.Common.{◌≡◌, Option, Some, None, refl, sym, ap, subst, ◌∙◌}
use Rattle.std.specs.Prelude.{option_map}
use Rattle.dsm_model.specs.World.{Step, numbered}
use Rattle.dsm_world.specs.System.{setting_of, world_of, progress_of}
use Rattle.dsm_world.proofs.Numbered.{numbered_map}
use Rattle.replica.specs.Replica.{Replica as ReplicaState}
use Rattle.report.specs.Answers.{text_of}
use Rattle.report.specs.Lines.{line_text}
use Rattle.report.specs.declared.printed.Line.TheVariants as line
use Rattle.report.specs.declared.printed.DeliveredEntry.TheVariants as delivered
use Rattle.script_replay.specs.Actions.{OneStep, begin_action, number_of_name}
use Rattle.script_replay.specs.Acting.{Gives}
use Rattle.script_replay.proofs.GivenLemmas.{gives_done}
use Rattle.script_replay.proofs.ActedLemmas.{named_there, not_named, begins, begins_unnamed, begins_nowhere, printed_so}
use Rattle.script_replay.proofs.answers.begin.Goals as goal

pub returns-in_default-clause-done : goal.returns-in_default-clause-done
returns-in_default-clause-done g c =
    let w-of = setting_of c.args.world.now in
    let before = world_of c.args.world.now in
    let at = numbered_map progress_of c.args.world.now.replicas c.args.replica in
    let said = ap text_of (c.begin_line.ensures 0 c.args.args.now c.args.request (delivered.Call None)) in
    elim c.match-replica.branch [
      | goal.in-None w ↦ (
          let none = at ∙ ap (λ (o : Option ReplicaState). option_map progress_of o) (sym c.replica.ensures ∙ ap (λ o. option_map (λ r. r.now) o) w.in-None.is) in
          gives_done g.W.Write.contents w-of before (begin_action c.args.replica c.args.name.now c.args.args.now c.args.request) c.args.output.now c.put_answer.new.output c.put_answer.result before _
          (begins_nowhere w-of before c.args.replica c.args.name.now c.args.args.now c.args.request none)
          (subst (Gives g.W.Write.contents c.args.output.now c.put_answer.new.output c.put_answer.result) (said ∙ ap (λ r. line_text (line.BeginRefused r)) w.refusal-is) c.put_answer.ensures.given))
      | goal.in-Some-replica w ↦ (
          let k = w.in-Some-replica.field-0.now in
          let stands : numbered c.args.world.now.replicas c.args.replica ≡ Some k = sym c.replica.ensures ∙ ap (λ o. option_map (λ r. r.now) o) w.in-Some-replica.is in
          let there : numbered before.replicas c.args.replica ≡ Some (progress_of k) = at ∙ ap (λ (o : Option ReplicaState). option_map progress_of o) stands in
          let named = not_named w-of before c.args.replica c.args.name.now c.by_name.result k there c.in_default.is (c.by_name.ensures.there k stands) in
          gives_done g.W.Write.contents w-of before (begin_action c.args.replica c.args.name.now c.args.args.now c.args.request) c.args.output.now c.put_answer.new.output c.put_answer.result before _
          (begins_unnamed w-of before c.args.replica c.args.name.now c.args.args.now c.args.request (progress_of k) named there)
          (subst (Gives g.W.Write.contents c.args.output.now c.put_answer.new.output c.put_answer.result) (said ∙ ap (λ r. line_text (line.BeginRefused r)) w.refusal-is) c.put_answer.ensures.given))
    ]

pub returns-clause-done : goal.returns-clause-done
returns-clause-done g c =
    let w = setting_of c.args.world.now in
    let before = world_of c.args.world.now in
    let named : number_of_name w before c.args.replica c.args.name.now ≡ Some c.in-Some.procedure =
    named_there w before c.args.replica c.in-Some.procedure c.args.name.now c.args.world.now.replicas _ c.by_name.result refl (numbered_map progress_of c.args.world.now.replicas c.args.replica)
    c.in-Some.is c.by_name.ensures.no_replica c.by_name.ensures.there in
    printed_so g.W.Write.contents _ _ c.args.output.now c.take_step.new.output c.take_step.result (world_of c.take_step.new.world)
    (λ text after one. begins w before c.args.replica c.args.name.now c.args.args.now c.args.request c.in-Some.procedure text after named
    (subst (λ (k : Step). OneStep w before k text after) (c.begin_step.ensures w) one)) c.take_step.ensures.done
