use Rattle.order_log.proofs.Attempts.{known_after, attempt_of}
use Rattle.order_log.proofs.log.OrderLog.attempt.Goals as goal

pub of-requires : goal.of-requires
of-requires g c = known_after c.args.entry.value c.place-attempt.result c.place-attempt.new.note.known c.place-attempt.ensures.known

pub returns : goal.returns
returns g c =
    attempt_of c.args.seen.now c.push.new.self c.args.entry.value c.of.result.value c.place-attempt.result c.place-attempt.new.note.known c.place-attempt.ensures.known c.of.ensures.2 c.push.ensures
