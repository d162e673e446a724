use Rattle.std.proofs.Common.{Some, None, Ok, ap}
use Rattle.script.specs.Script.{line_says}
use Rattle.script_replay.specs.Stage.{effect_of}
use Rattle.script_replay.specs.Doing.{stage_of}
use Rattle.script_replay.proofs.DoneLemmas.{goes, stops, by_effect, fault_of_line, says_by, stops_at}
use Rattle.script_replay.proofs.line.do_line.Goals as goal

pub returns-in-Ok-None-clause-done : goal.returns-in-Ok-None-clause-done
returns-in-Ok-None-clause-done g c =
    goes g.W.Write.contents c.args.number (effect_of (stage_of c.args.stage) (line_says c.args.line.now)) c.args.output.now c.args.stage
    (ap (effect_of (stage_of c.args.stage)) (says_by c.args.line.now c.in-Ok-None.field-0 None c.in-Ok-None.ensures.exact c.in-Ok-None.field-0-is))

pub returns-in-Ok-Some-clause-done : goal.returns-in-Ok-Some-clause-done
returns-in-Ok-Some-clause-done g c =
    by_effect g.W.Write.contents c.args.number (effect_of (stage_of c.args.stage) (line_says c.args.line.now)) (effect_of (stage_of c.args.stage) (Ok (Some c.in-Ok-Some.statement)))
    c.args.output.now c.do_statement.new.output c.do_statement.result
    (ap (effect_of (stage_of c.args.stage)) (says_by c.args.line.now c.in-Ok-Some.field-0 (Some c.in-Ok-Some.statement) c.in-Ok-Some.ensures.exact c.in-Ok-Some.field-0-is)) c.do_statement.ensures.done

pub returns-in-Err-clause-done : goal.returns-in-Err-clause-done
returns-in-Err-clause-done g c =
    stops g.W.Write.contents c.args.number (stage_of c.args.stage) (line_says c.args.line.now) c.args.output.now c.fault_at.result
    (fault_of_line c.args.number (stage_of c.args.stage) (line_says c.args.line.now) c.in-Err.fault c.from.result c.fault_at.result c.in-Err.ensures.fault c.from.ensures c.fault_at.ensures)

pub returns-in-Err-clause-stopped : goal.returns-in-Err-clause-stopped
returns-in-Err-clause-stopped g c = stops_at g.W.Write.contents c.args.number c.args.output.now c.fault_at.result c.from.result c.fault_at.ensures
