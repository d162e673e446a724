use Rattle.std.proofs.Common.{inl, length, Option, sym, ap, subst, ◌∙◌}
use Rattle.log_model.specs.declared.request.RequestId.{RequestId}
use Rattle.log_model.specs.Log.{Call}
use Rattle.log_model.specs.declared.verdict.Verdict.{Verdict}
use Rattle.log_model.specs.declared.verdict.Verdict.TheVariants.{Commit, Conflict, Stale, Repeated}
use Rattle.node_calls.specs.Asked.{AskedCall}
use Rattle.node_calls.specs.Answer.{IsReplyTo, IsVerdict, WasDoneAt}
use Rattle.node_calls.proofs.AnswerLemmas.{verdict_here, never_taken, repeated}
use Rattle.node_calls.proofs.executor.Executor.answer_of.Goals as goal

pub unreachable-requires : goal.unreachable-requires
unreachable-requires g c =
    let (o, replied) = c.requires.ordered in
    never_taken g.J.LogSetting.setting o.entry c.args.position c.args.seen.now c.replicas_follow_the_log.ensures.next c.in-Taken.field-0 o.appended
    (subst (λ (v : Verdict). IsVerdict g.J.LogSetting.setting (length c.args.seen.now) c.args.seen.now v) c.in-Taken.is c.requires.known)

pub reply_to-requires : goal.reply_to-requires
reply_to-requires g c =
    let (o, replied) = c.requires.ordered in
    let w = g.J.LogSetting.setting in
    subst (λ (request : Option RequestId). WasDoneAt w c.args.seen.now request c.in-Repeated.earlier)
    (ap (λ (call : Call). call.request) o.call ∙ sym (ap (λ (a : AskedCall). a.request) c.asked.view_is))
    (repeated w o.entry c.args.position c.args.seen.now (λ log d call earlier is_log at is. (c.verdicts_in_words_of_the_log.ensures.repeated w log d call earlier is_log at).0 is) c.in-Repeated.earlier o.appended
    (subst (λ (v : Verdict). IsVerdict w (length c.args.seen.now) c.args.seen.now v) c.in-Repeated.is c.requires.known))

pub returns-in-Commit : goal.returns-in-Commit
returns-in-Commit g c =
    let (o, replied) = c.requires.ordered in (
      o,
      verdict_here g.J.LogSetting.setting o.entry c.args.position c.args.seen.now Commit o.appended (subst (λ (v : Verdict). IsVerdict g.J.LogSetting.setting (length c.args.seen.now) c.args.seen.now v) c.in-Commit.is c.requires.known),
      replied,
    )

pub returns-in-Conflict : goal.returns-in-Conflict
returns-in-Conflict g c =
    let (o, replied) = c.requires.ordered in (
      o,
      verdict_here g.J.LogSetting.setting o.entry c.args.position c.args.seen.now (Conflict c.in-Conflict.other) o.appended (subst (λ (v : Verdict). IsVerdict g.J.LogSetting.setting (length c.args.seen.now) c.args.seen.now v) c.in-Conflict.is c.requires.known),
    )

pub returns-in-Stale : goal.returns-in-Stale
returns-in-Stale g c =
    let (o, replied) = c.requires.ordered in inl (
      c.args.position,
      o,
      verdict_here g.J.LogSetting.setting o.entry c.args.position c.args.seen.now Stale o.appended (subst (λ (v : Verdict). IsVerdict g.J.LogSetting.setting (length c.args.seen.now) c.args.seen.now v) c.in-Stale.is c.requires.known),
    )

pub returns-in-Repeated : goal.returns-in-Repeated
returns-in-Repeated g c =
    let (o, replied) = c.requires.ordered in (
      o,
      verdict_here g.J.LogSetting.setting o.entry c.args.position c.args.seen.now (Repeated c.in-Repeated.earlier) o.appended (subst (λ (v : Verdict). IsVerdict g.J.LogSetting.setting (length c.args.seen.now) c.args.seen.now v) c.in-Repeated.is c.requires.known),
      subst (λ (request : Option RequestId). IsReplyTo g.J.LogSetting.setting c.args.seen.now request c.in-Repeated.earlier c.reply_to.result) (ap (λ (a : AskedCall). a.request) c.asked.view_is) c.reply_to.ensures,
    )
