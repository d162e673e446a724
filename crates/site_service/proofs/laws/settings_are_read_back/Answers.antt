-- Settings that lines say are within limits, and so are those that go on from them; what is within limits is read back.
use Rattle.std.proofs.Common.{[], subst}
use Rattle.site_model.specs.Next.{next_setting}
use Rattle.site_service.specs.Answering.{order_after}
use Rattle.site_service.proofs.BackLemmas.{read_back}
use Rattle.site_service.proofs.NextLemmas.{Laws, next_is_told, told_are_numbered}
use Rattle.site_service.proofs.SaidLemmas.{said_is_told}
use Rattle.site_service.proofs.TakenLemmas.{none_taken, strings_fit, taken_after}
use Rattle.site_service.proofs.Told.{FitsOrigin}
use Rattle.site_service.proofs.laws.settings_are_read_back.Goals as goal

pub returns-clause-own : goal.returns-clause-own
returns-clause-own c said s e = read_back s (said_is_told said s e)

pub returns-clause-next : goal.returns-clause-next
returns-clause-next c said s order e are room =
    let told = said_is_told said s e in
    let laws : Laws s = record {
      grow = c.a_log_only_grows.ensures.procedures;
      count = c.orders_grow.ensures.count;
      verdicts = c.each_call_has_a_verdict.ensures.within;
      first = c.procedures_after_each_byte_string.ensures.first;
      told = c.procedures_after_each_byte_string.ensures.told;
      added = c.procedures_after_each_byte_string.ensures.added;
      others = c.procedures_after_each_byte_string.ensures.others;
      passed = c.programs_pass_where_they_are_accepted.ensures.passed;
      safe = c.accepted_procedures_are_safe.ensures;
      fit = c.orders_of_bytes_fit.ensures;
      rows = c.logs_whose_calls_fit.ensures.rows;
      runs = c.states_fit.ensures.run;
      sessions = c.sessions_go_on.ensures.next;
      first_sessions = c.sessions_go_on.ensures.first;
    } in
    read_back (next_setting s order)
    (next_is_told s laws told order are
    (λ origin has. strings_fit s order origin has (subst FitsOrigin has told.origin).0 room)
    (c.next_settings_go_on.ensures s order (told_are_numbered s told)).numbered)

pub returns-clause-dumped : goal.returns-clause-dumped
returns-clause-dumped c said s lines e =
    let taken = taken_after s [] lines (none_taken s) in
    returns-clause-next c said s (order_after s [] lines) e taken.bytes taken.room
