use Rattle.std.proofs.Common.{◌≡◌, ◌∙◌, ◌≤◌, ℕ, length, sym, ap, subst}
use Rattle.log_model.specs.Log.{Call}
use Rattle.node_calls.specs.Answer.{asked_call}
use Rattle.node_calls.proofs.executor.Executor.answer_ordered.Goals as goal

pub answer_by-answer-requires-clause-ordered : goal.answer_by-answer-requires-clause-ordered
answer_by-answer-requires-clause-ordered g c =
    let snapshot : c.args.entry.call.snapshot ≡ length c.args.seen = ap (λ (call : Call). call.snapshot) c.requires.call in (
      record {
        entry = c.args.entry;
        appended = c.in-Ok.ensures.appended;
        call = c.requires.call ∙ ap (asked_call c.args.asked.now) (sym snapshot);
        least = subst (λ (n : ℕ). c.args.asked.now.least ≤ n) (sym snapshot) c.requires.least;
        whole = c.requires.whole;
      },
      c.reply_of-reply.ensures,
    )
