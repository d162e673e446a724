use Rattle.std.proofs.Common.{refl, sym, subst, ap}
use Rattle.site_report.specs.Answers.{position_line}
use Rattle.site.specs.Replica.{setting_of}
use Rattle.site_service.specs.LineAnswers.{IsAnswer, dump_answer, entry_answer, rows_answer, scan_answer}
use Rattle.script.proofs.SaidLemmas.{ok_gives}
use Rattle.site_service.proofs.AnswerLemmas.{call_answered}
use Rattle.site_service.proofs.answer_line.answer_request.Goals as goal

pub returns-in-Call-clause-answered : goal.returns-in-Call-clause-answered
returns-in-Call-clause-answered g c = λ order stands.
    let a = c.answer_call.ensures order stands in (
      a.0,
      call_answered (setting_of c.args.site) order c.args.request.now c.in-Call.name c.in-Call.args c.as_slice.result.now c.as_slice-in-Call.result.now c.in-Call.session c.in-Call.sequence c.given_request.result a.0 c.in-Call.is c.as_slice.ensures c.as_slice-in-Call.ensures c.given_request.ensures a.1,
      a.2,
    )

pub returns-in-Entry-clause-answered : goal.returns-in-Entry-clause-answered
returns-in-Entry-clause-answered g c = ok_gives c.answer_entry.result _ _ c.answer_entry.ensures.answered (λ next given order stands. (
  entry_answer (setting_of c.args.site) order c.as_slice-in-Entry.result.now,
  subst (λ r. IsAnswer (setting_of c.args.site) order r (entry_answer (setting_of c.args.site) order c.as_slice-in-Entry.result.now)) (sym c.in-Entry.is) (ap (entry_answer (setting_of c.args.site) order) c.as_slice-in-Entry.ensures),
  given order stands,
))

pub returns-in_ok-answer_rows-in-Rows-clause-answered : goal.returns-in_ok-answer_rows-in-Rows-clause-answered
returns-in_ok-answer_rows-in-Rows-clause-answered g c = λ order stands. (
  rows_answer (setting_of c.args.site) order,
  subst (λ r. IsAnswer (setting_of c.args.site) order r (rows_answer (setting_of c.args.site) order)) (sym c.in-Rows.is) refl,
  c.in_ok-answer_rows-in-Rows.ensures.answered order stands,
)

pub returns-in_ok-answer_dump-in-Dump-clause-answered : goal.returns-in_ok-answer_dump-in-Dump-clause-answered
returns-in_ok-answer_dump-in-Dump-clause-answered g c = λ order stands. (
  dump_answer (setting_of c.args.site) order,
  subst (λ r. IsAnswer (setting_of c.args.site) order r (dump_answer (setting_of c.args.site) order)) (sym c.in-Dump.is) refl,
  c.in_ok-answer_dump-in-Dump.ensures.answered order stands,
)

pub returns-in-Position-clause-answered : goal.returns-in-Position-clause-answered
returns-in-Position-clause-answered g c = λ order stands. (
  position_line c.position.result,
  subst (λ r. IsAnswer (setting_of c.args.site) order r (position_line c.position.result)) (sym c.in-Position.is) (ap position_line (c.position.ensures.count order stands)),
  c.append_position_line.ensures,
)

pub returns-in-Scan-clause-answered : goal.returns-in-Scan-clause-answered
returns-in-Scan-clause-answered g c = λ order stands. (
  scan_answer (setting_of c.args.site) order c.in-Scan.scan,
  subst (λ r. IsAnswer (setting_of c.args.site) order r (scan_answer (setting_of c.args.site) order c.in-Scan.scan)) (sym c.in-Scan.is) refl,
  c.answer_scan.ensures order stands,
)
