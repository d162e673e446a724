use Rattle.std.proofs.Common.{◌≡◌, ◌++◌, codes, Option, None, subst, sym, ap}
use Rattle.std.specs.Prelude.{option_map}
use Rattle.std.proofs.lemmas.Result.{err_from_is_err_and}
use Rattle.log_model.specs.Log.{Item}
use Rattle.log_entry.specs.Kind as kind
use Rattle.dsm_model.specs.World.{numbered}
use Rattle.dsm_world.specs.System.{setting_of, world_of}
use Rattle.log_entry.specs.Bytes.{entry_bytes}
use Rattle.report.specs.Lines as lines
use Rattle.report.specs.Lines.{bytes_words}
use Rattle.script_replay.specs.Printed.{entry_of}
use Rattle.script_replay.specs.Acting.{Gives, PassesBeginning}
use Rattle.byte_output.proofs.PendingLemmas.{Passes-then}
use Rattle.script_replay.proofs.GivenLemmas.{beginning_more, beginning_then, given_then}
use Rattle.script_replay.proofs.PrintedLemmas.{item_numbered, entry_printed}
use Rattle.script_replay.proofs.log.put_entry.Goals as goal

pub returns-in_default-clause-given : goal.returns-in_default-clause-given
unfolding lines.line_words
returns-in_default-clause-given g c =
    let w = setting_of c.args.world.now in
    let log = (world_of c.args.world.now).log in
    let none : numbered log c.args.position ≡ None = item_numbered c.args.world.now.entries c.args.position None (sym c.in_default.ensures) in
    subst (Gives g.W.Write.contents c.args.output.now c.put_line.new.output c.put_line.result)
    (ap (λ (o : Option Item). bytes_words c.args.position (option_map (λ item. entry_bytes (entry_of w log item)) o) ++ codes "\n") (sym none)) c.put_line.ensures.given

pub returns-in_err-put_bytes_label-clause-given : goal.returns-in_err-put_bytes_label-clause-given
returns-in_err-put_bytes_label-clause-given g c =
    let text = entry_printed c.args.world.now c.args.position (kind.entry_of c.in-Some.entry.now) c.keeps_what_was_delivered.ensures.entries (sym c.in-Some.ensures) in
    let q = err_from_is_err_and c.from_residual.result c.from_residual.ensures.1 in
    rw q.1 (subst (PassesBeginning g.W.Write.contents c.args.output.now c.put_bytes_label.new.output) text
    (beginning_more g.W.Write.contents c.args.output.now c.put_bytes_label.new.output _ _ (beginning_more g.W.Write.contents c.args.output.now c.put_bytes_label.new.output _ _ c.in_err-put_bytes_label.ensures.given)))

pub returns-in_err-put_bytes-clause-given : goal.returns-in_err-put_bytes-clause-given
returns-in_err-put_bytes-clause-given g c =
    let text = entry_printed c.args.world.now c.args.position (kind.entry_of c.in-Some.entry.now) c.keeps_what_was_delivered.ensures.entries (sym c.in-Some.ensures) in
    let q = err_from_is_err_and c.from_residual-in_err-put_bytes.result c.from_residual-in_err-put_bytes.ensures.1 in
    rw q.1 (subst (PassesBeginning g.W.Write.contents c.args.output.now c.put_bytes.new.output) text
    (beginning_more g.W.Write.contents c.args.output.now c.put_bytes.new.output _ _
    (beginning_then g.W.Write.contents c.args.output.now c.put_bytes_label.new.output c.put_bytes.new.output _ _ c.in_ok-put_bytes_label.ensures.given c.in_err-put_bytes.ensures.given)))

pub returns-clause-given : goal.returns-clause-given
returns-clause-given g c =
    let text = entry_printed c.args.world.now c.args.position (kind.entry_of c.in-Some.entry.now) c.keeps_what_was_delivered.ensures.entries (sym c.in-Some.ensures) in
    subst (Gives g.W.Write.contents c.args.output.now c.put_text.new.output c.put_text.result) text
    (given_then g.W.Write.contents c.args.output.now c.put_bytes.new.output c.put_text.new.output c.put_text.result _ _
    (Passes-then g.W.Write.contents c.args.output.now c.put_bytes_label.new.output c.put_bytes.new.output _ _ c.in_ok-put_bytes_label.ensures.given c.in_ok-put_bytes.ensures.given) c.put_text.ensures.given)
