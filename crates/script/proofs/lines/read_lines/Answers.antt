use Rattle.std.proofs.Common.{length, subst, inr, refl, sym, ap, ◌∙◌}
use Rattle.script.specs.Text.{lines_of}
use Rattle.script.specs.Reading.{IsNext}
use Rattle.script.specs.Said.{IsStopOf, said_from}
use Rattle.script.proofs.SaidLemmas.{at_most, counts_on, ends, err_mapped, goes_on, ok_gives, ok_mapped, stops, first_line}
use Rattle.script.proofs.lines.read_lines.Goals as goal

pub loop-number-init : goal.loop-number-init
loop-number-init g c = λ bytes known.
    (bytes, known, ap (λ (s : g.L.LineReader.Meaning). said_from g.L.LineReader.with_next g.L.LineReader.at_end s 1 (lines_of bytes)) (sym c.in-Ok.ensures), refl)

pub returns-in-Ok-AtEnd-clause-exact : goal.returns-in-Ok-AtEnd-clause-exact
returns-in-Ok-AtEnd-clause-exact g c = ok_mapped c.into_whole.result c.map_err.result _ _ c.map_err.ensures.cases (ok_gives c.into_whole.result _ _ c.into_whole.ensures.exact (λ whole is bytes known.
    let s = c.loop-number.invariant bytes known in
    let none = subst (IsNext s.0 (g.R.Read.remaining c.next_line.new.input) c.next_line.new.line.items) c.in-Ok-AtEnd.field-0-is (c.in-Ok-AtEnd.ensures s.0 s.1) in
    ends g.L.LineReader.with_next g.L.LineReader.at_end _ (g.L.LineReader.read_so_far c.loop-number.reader) c.loop-number.number (lines_of s.0) s.2 none ∙ is))

pub returns-in-Ok-AtEnd-clause-stop : goal.returns-in-Ok-AtEnd-clause-stop
returns-in-Ok-AtEnd-clause-stop g c = err_mapped c.into_whole.result c.map_err.result _ _ _ c.map_err.ensures.cases c.into_whole.ensures.fault (λ fault stop made is bytes known.
    let s = c.loop-number.invariant bytes known in
    let none = subst (IsNext s.0 (g.R.Read.remaining c.next_line.new.input) c.next_line.new.line.items) c.in-Ok-AtEnd.field-0-is (c.in-Ok-AtEnd.ensures s.0 s.1) in
    let whole = ends g.L.LineReader.with_next g.L.LineReader.at_end _ (g.L.LineReader.read_so_far c.loop-number.reader) c.loop-number.number (lines_of s.0) s.2 none in
    subst (IsStopOf _ _) (sym made) (inr (whole ∙ is)))

pub returns-in-Ok-TooLong-clause-stop : goal.returns-in-Ok-TooLong-clause-stop
returns-in-Ok-TooLong-clause-stop g c = λ bytes known.
    let s = c.loop-number.invariant bytes known in
    let next = subst (IsNext s.0 (g.R.Read.remaining c.next_line.new.input) c.next_line.new.line.items) c.in-Ok-TooLong.field-0-is (c.in-Ok-TooLong.ensures s.0 s.1) in
    let so_far = g.L.LineReader.read_so_far c.loop-number.reader in
    stops g.L.LineReader.with_next g.L.LineReader.at_end _ so_far c.loop-number.number (length (lines_of bytes)) (lines_of s.0) next.1 next.0 _ c.fault_at.result s.2 next.2
    (inr (g.met.L.LineReader.too_long so_far next.0 next.3)) c.fault_at.ensures (at_most _ c.loop-number.number (lines_of s.0) next.1 next.0 s.3 next.2)

pub returns-in-Err-take_line-clause-stop : goal.returns-in-Err-take_line-clause-stop
returns-in-Err-take_line-clause-stop g c = λ bytes known.
    let s = c.loop-number.invariant bytes known in
    let next = subst (IsNext s.0 (g.R.Read.remaining c.next_line.new.input) c.next_line.new.line.items) c.in-Ok-Line.field-0-is (c.in-Ok-Line.ensures s.0 s.1) in
    stops g.L.LineReader.with_next g.L.LineReader.at_end _ (g.L.LineReader.read_so_far c.loop-number.reader) c.loop-number.number (length (lines_of bytes)) (lines_of s.0) (lines_of next.0) c.deref.result.now c.in-Err-take_line.cause
    c.fault_at-in-Err-take_line.result s.2 (first_line s.0 next.0 c.next_line.new.line.items c.deref.result.now next.2 c.deref.ensures.value)
    c.in-Err-take_line.ensures.fault c.fault_at-in-Err-take_line.ensures (at_most _ c.loop-number.number (lines_of s.0) (lines_of next.0) _ s.3 next.2)

pub loop-number-preserved : goal.loop-number-preserved
loop-number-preserved g c = λ bytes known.
    let s = c.loop-number.invariant bytes known in
    let next = subst (IsNext s.0 (g.R.Read.remaining c.next_line.new.input) c.next_line.new.line.items) c.in-Ok-Line.field-0-is (c.in-Ok-Line.ensures s.0 s.1) in (
      next.0,
      next.1,
      goes_on g.L.LineReader.with_next g.L.LineReader.at_end _ (g.L.LineReader.read_so_far c.loop-number.reader) (g.L.LineReader.read_so_far c.take_line.new.self) c.loop-number.number (lines_of s.0) (lines_of next.0) c.deref.result.now
          s.2 (first_line s.0 next.0 c.next_line.new.line.items c.deref.result.now next.2 c.deref.ensures.value) c.in_default-take_line.ensures.ok,
      counts_on _ c.loop-number.number (lines_of s.0) (lines_of next.0) _ s.3 next.2,
    )
