use Rattle.std.proofs.Common.{[], subst}
use Rattle.byte_output.specs.Taken.{HasTakenMore, nothing_more}
use Rattle.site_service.specs.InputLines.{IsNextLine}
use Rattle.site.specs.Replica.{setting_of}
use Rattle.site_service.specs.Answering.{IsNoText}
use Rattle.site_service.proofs.AnswersLemmas.{nothing_answered_of}
use Rattle.site_service.proofs.LinesLemmas.{input_fails, line_goes, long_goes, nothing_taken, wants}
use Rattle.site_service.proofs.lines.append_next.Goals as goal

pub returns-in_default-clause-given : goal.returns-in_default-clause-given
returns-in_default-clause-given g c = λ bytes known order stands.
    wants (setting_of c.args.site) order bytes (g.R.Read.remaining c.next_line.new.input) c.args.number (HasTakenMore g.W.Write.contents c.args.sink.now c.answer.new.sink) g.row.A.Denot IsNoText c.out_of_memory.result c.out_of_memory.ensures
    (nothing_taken g.W.Write.contents c.args.sink.now c.answer.new.sink c.in_default.ensures.nothing)

pub returns-in-Ok-clause-given : goal.returns-in-Ok-clause-given
returns-in-Ok-clause-given g c = λ bytes known order stands.
    let is = subst (IsNextLine bytes (g.R.Read.remaining c.next_line.new.input) c.next_line.new.line.items) c.in-Ok-Line.field-0-is (c.in-Ok-Line.ensures bytes known) in
    let answer = c.in-Ok.ensures.answered order stands in
    line_goes (setting_of c.args.site) order bytes (g.R.Read.remaining c.next_line.new.input) c.args.number (HasTakenMore g.W.Write.contents c.args.sink.now c.answer.new.sink)
    c.next_line.new.line.items c.deref.result.now answer.0 c.in-Ok.site c.in-Ok-Line.is_followed is c.deref.ensures.value answer.1 answer.2 (c.in-Ok.ensures.stands order stands)

pub returns-in-Ok-TooLong-clause-given : goal.returns-in-Ok-TooLong-clause-given
returns-in-Ok-TooLong-clause-given g c = λ bytes known order stands.
    let is = subst (IsNextLine bytes (g.R.Read.remaining c.next_line.new.input) c.next_line.new.line.items) c.in-Ok-TooLong.field-0-is (c.in-Ok-TooLong.ensures bytes known) in
    long_goes (setting_of c.args.site) order bytes (g.R.Read.remaining c.next_line.new.input) c.args.number (HasTakenMore g.W.Write.contents c.args.sink.now c.append_fault_line.new.sink)
    c.next_line.new.line.items c.args.site is c.append_fault_line.ensures stands

pub returns-in-Ok-AtEnd-clause-given : goal.returns-in-Ok-AtEnd-clause-given
returns-in-Ok-AtEnd-clause-given g c = λ bytes known order stands.
    let none = subst (IsNextLine bytes (g.R.Read.remaining c.next_line.new.input) c.next_line.new.line.items) c.in-Ok-AtEnd.field-0-is (c.in-Ok-AtEnd.ensures bytes known) in
    ([], nothing_answered_of (setting_of c.args.site) order _ none, nothing_more g.W.Write.contents c.args.sink.now)

pub returns-in-Err-clause-given : goal.returns-in-Err-clause-given
returns-in-Err-clause-given g c = λ bytes known order stands.
    input_fails (setting_of c.args.site) order bytes (g.R.Read.remaining c.next_line.new.input) c.args.number (HasTakenMore g.W.Write.contents c.args.sink.now c.args.sink.now) (nothing_more g.W.Write.contents c.args.sink.now)
