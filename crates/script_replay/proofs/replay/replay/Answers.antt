use Rattle.std.proofs.Common.{refl, sym, ◌∙◌, subst}
use Rattle.std.proofs.lemmas.Result.{err_from_is_err_and}
use Rattle.script.specs.Text.{lines_of}
use Rattle.script.specs.Reading.{IsNext}
use Rattle.script.specs.Settings.{ScriptSettings}
use Rattle.script_replay.specs.Stage.{Setup, first_stage}
use Rattle.script_replay.specs.Replay.{ScriptPrints}
use Rattle.script_replay.specs.Doing.{stage_of}
use Rattle.script_replay.proofs.DoneLemmas.{wanting}
use Rattle.script_replay.proofs.SoFarLemmas.{SoFar, from_start, stops_here, ends_here, ends_at_bytes, line_goes_on, line_stops, replayed_by, first_line, wants_first, wants_none, line_wants, wanted_by}
use Rattle.script_replay.proofs.replay.replay.Goals as goal

pub returns-in_default-clause-replayed : goal.returns-in_default-clause-replayed
returns-in_default-clause-replayed g c = λ bytes known.
    wanting g.W.Write.contents 0 c.args.output.now c.args.output.now (ScriptPrints bytes) c.out_of_memory.result c.out_of_memory.ensures
    (stops_here g.W.Write.contents first_stage 1 (lines_of bytes) (lines_of bytes) c.args.output.now c.args.output.now (from_start g.W.Write.contents (lines_of bytes) c.args.output.now))

pub returns-in_default-new-clause-replayed : goal.returns-in_default-new-clause-replayed
returns-in_default-new-clause-replayed g c = λ bytes known.
    wanting g.W.Write.contents 0 c.args.output.now c.args.output.now (ScriptPrints bytes) c.out_of_memory-in_default-new.result c.out_of_memory-in_default-new.ensures
    (stops_here g.W.Write.contents first_stage 1 (lines_of bytes) (lines_of bytes) c.args.output.now c.args.output.now (from_start g.W.Write.contents (lines_of bytes) c.args.output.now))

pub returns-in-Ok-AtEnd-clause-replayed : goal.returns-in-Ok-AtEnd-clause-replayed
returns-in-Ok-AtEnd-clause-replayed g c = λ bytes known.
    let s = c.loop-number.invariant.1 bytes known in
    let next = subst (IsNext s.0 (g.R.Read.remaining c.next_line.new.input) c.next_line.new.line.items) c.in-Ok-AtEnd.field-0-is (c.in-Ok-AtEnd.ensures s.0 s.1) in
    ends_here g.W.Write.contents (stage_of c.loop-number.stage) c.loop-number.number (lines_of bytes) (lines_of s.0) c.args.output.now c.loop-number.output s.2 next

pub returns-in-Ok-TooLong-clause-replayed : goal.returns-in-Ok-TooLong-clause-replayed
returns-in-Ok-TooLong-clause-replayed g c = λ bytes known.
    let s = c.loop-number.invariant.1 bytes known in
    let next = subst (IsNext s.0 (g.R.Read.remaining c.next_line.new.input) c.next_line.new.line.items) c.in-Ok-TooLong.field-0-is (c.in-Ok-TooLong.ensures s.0 s.1) in
    ends_at_bytes g.W.Write.contents (stage_of c.loop-number.stage) c.loop-number.number (lines_of bytes) (lines_of s.0) next.1 next.0 c.args.output.now c.loop-number.output c.fault_at.result s.2 next.2
    (c.lines_that_are_too_long_are_at_fault.ensures next.0 next.3) c.fault_at.ensures

pub returns-in-Err-clause-replayed : goal.returns-in-Err-clause-replayed
returns-in-Err-clause-replayed g c = λ bytes known.
    let s = c.loop-number.invariant.1 bytes known in
    stops_here g.W.Write.contents (stage_of c.loop-number.stage) c.loop-number.number (lines_of bytes) (lines_of s.0) c.args.output.now c.loop-number.output s.2

pub returns-in_err-stage-clause-replayed : goal.returns-in_err-stage-clause-replayed
returns-in_err-stage-clause-replayed g c = λ bytes known.
    let s = c.loop-number.invariant.1 bytes known in
    let next = subst (IsNext s.0 (g.R.Read.remaining c.next_line.new.input) c.next_line.new.line.items) c.in-Ok-Line.field-0-is (c.in-Ok-Line.ensures s.0 s.1) in
    let p = err_from_is_err_and c.from_residual.result c.from_residual.ensures.1 in
    replayed_by g.W.Write.contents c.args.output.now c.do_line.new.output (ScriptPrints bytes) c.from_residual.result p.0 c.in_err-stage.field-0.0 p.1 p.2
    (line_stops g.W.Write.contents (stage_of c.loop-number.stage) c.loop-number.number (lines_of bytes) (lines_of s.0) (lines_of next.0) c.deref.result.now c.args.output.now c.loop-number.output c.do_line.new.output c.in_err-stage.field-0.0
    s.2 (first_line s.0 next.0 c.next_line.new.line.items c.deref.result.now next.2 c.deref.ensures.value) c.in_err-stage.ensures.done)

pub loop-number-preserved : goal.loop-number-preserved
loop-number-preserved g c = (
  c.in_ok-stage.ensures.same_output ∙ c.loop-number.invariant.0,
  λ bytes known.
      let s = c.loop-number.invariant.1 bytes known in
      let next = subst (IsNext s.0 (g.R.Read.remaining c.next_line.new.input) c.next_line.new.line.items) c.in-Ok-Line.field-0-is (c.in-Ok-Line.ensures s.0 s.1) in (
        next.0,
        next.1,
        line_goes_on g.W.Write.contents (stage_of c.loop-number.stage) c.in_ok-stage.stage c.loop-number.number (lines_of bytes) (lines_of s.0) (lines_of next.0) c.deref.result.now
            c.args.output.now c.loop-number.output c.do_line.new.output s.2 (first_line s.0 next.0 c.next_line.new.line.items c.deref.result.now next.2 c.deref.ensures.value) c.in_ok-stage.ensures.done,
      ),
)

pub returns-clause-replayed : goal.returns-clause-replayed
returns-clause-replayed g c = λ bytes known.
    let s = c.loop-number.invariant.1 bytes known in
    stops_here g.W.Write.contents (stage_of c.loop-number.stage) c.loop-number.number (lines_of bytes) (lines_of s.0) c.args.output.now c.loop-number.output s.2

pub returns-in_default-clause-wanted : goal.returns-in_default-clause-wanted
returns-in_default-clause-wanted g c = λ bytes known.
    wants_first g.W.Write.contents bytes (g.R.Read.remaining c.args.input.now) c.args.output.now c.out_of_memory.result c.out_of_memory.ensures known

pub returns-in_default-new-clause-wanted : goal.returns-in_default-new-clause-wanted
returns-in_default-new-clause-wanted g c = λ bytes known.
    wants_first g.W.Write.contents bytes (g.R.Read.remaining c.args.input.now) c.args.output.now c.out_of_memory-in_default-new.result c.out_of_memory-in_default-new.ensures known

pub returns-in-Ok-TooLong-clause-wanted : goal.returns-in-Ok-TooLong-clause-wanted
returns-in-Ok-TooLong-clause-wanted g c = λ bytes known.
    wants_none g.W.Write.contents bytes (g.R.Read.remaining c.next_line.new.input) c.args.output.now c.loop-number.output c.loop-number.number c.fault_at.result c.fault_at.ensures

pub returns-in_err-stage-clause-wanted : goal.returns-in_err-stage-clause-wanted
returns-in_err-stage-clause-wanted g c = λ bytes known.
    let s = c.loop-number.invariant.1 bytes known in
    let next = subst (IsNext s.0 (g.R.Read.remaining c.next_line.new.input) c.next_line.new.line.items) c.in-Ok-Line.field-0-is (c.in-Ok-Line.ensures s.0 s.1) in
    let p = err_from_is_err_and c.from_residual.result c.from_residual.ensures.1 in
    wanted_by g.W.Write.contents bytes (g.R.Read.remaining c.next_line.new.input) c.args.output.now c.do_line.new.output c.from_residual.result p.0 c.in_err-stage.field-0.0 p.1 p.2
    (line_wants g.W.Write.contents (stage_of c.loop-number.stage) c.loop-number.number bytes next.0 (g.R.Read.remaining c.next_line.new.input) (lines_of s.0) c.deref.result.now c.args.output.now c.loop-number.output c.do_line.new.output c.in_err-stage.field-0.0
    s.2 (first_line s.0 next.0 c.next_line.new.line.items c.deref.result.now next.2 c.deref.ensures.value) next.1 c.in_err-stage.ensures.stopped c.in_err-stage.ensures.done)

pub loop-number-init : goal.loop-number-init
loop-number-init g c = (
  refl,
  λ bytes known. (
    bytes,
    known,
    subst (λ (s : ScriptSettings). SoFar _ g.W.Write.contents (Setup s) 1 (lines_of bytes) (lines_of bytes) c.args.output.now c.args.output.now) (sym c.in-Ok-new.ensures)
        (from_start g.W.Write.contents (lines_of bytes) c.args.output.now),
  ),
)
