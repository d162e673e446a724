use Rattle.std.proofs.Common.{◌≡◌, ◌∙◌, ℕ, List, ◌++◌, sym, ap, subst}
use Rattle.std.proofs.lemmas.Result.{err_from_is_err_and}
use Rattle.hex.specs.Hex.{encode_lower}
use Rattle.byte_output.specs.Writes.{AppendsBeginning}
use Rattle.byte_output.specs.Pending.{output_of, pending_of, Passes, Takes}
use Rattle.byte_output.proofs.PendingLemmas.{Passes-then}
use Rattle.report.proofs.PrintingLemmas.{Takes-then, first_breaks, second_breaks}
use Rattle.report.proofs.printing.put_line.Goals as goal

pub returns-in_err-put-clause-bytes : goal.returns-in_err-put-clause-bytes
returns-in_err-put-clause-bytes g c =
    let line = c.parts-words.result in
    let old = g.W.Write.contents (output_of c.args.output.now).now in
    let new = g.W.Write.contents (output_of c.put.new.self).now in
    let pending = pending_of c.args.output.now in
    let q = err_from_is_err_and c.from_residual.result c.from_residual.ensures.1 in
    rw q.1 (subst (λ (t : List ℕ). AppendsBeginning old new (pending ++ t)) c.parts-words.ensures
    (first_breaks old new pending line.words.items (encode_lower line.bytes.now) line.rest.items
    (subst (λ (t : List ℕ). AppendsBeginning old new (pending ++ t)) c.deref.ensures.0 c.in_err-put.ensures.bytes)))

pub returns-in_err-put_hex-clause-bytes : goal.returns-in_err-put_hex-clause-bytes
returns-in_err-put_hex-clause-bytes g c =
    let line = c.parts-words.result in
    let old = g.W.Write.contents (output_of c.args.output.now).now in
    let new = g.W.Write.contents (output_of c.put_hex.new.output).now in
    let pending = pending_of c.args.output.now in
    let q = err_from_is_err_and c.from_residual-in_err-put_hex.result c.from_residual-in_err-put_hex.ensures.1 in
    rw q.1 (subst (λ (t : List ℕ). AppendsBeginning old new (pending ++ t)) c.parts-words.ensures
    (second_breaks g.W.Write.contents c.args.output.now c.put.new.self new line.words.items (encode_lower line.bytes.now) line.rest.items
    (subst (Passes g.W.Write.contents c.args.output.now c.put.new.self) c.deref.ensures.0 c.in_ok-put.ensures.bytes) c.in_err-put_hex.ensures.bytes))

pub returns-clause-bytes : goal.returns-clause-bytes
returns-clause-bytes g c =
    let line = c.parts-words.result in
    let words = subst (Passes g.W.Write.contents c.args.output.now c.put.new.self) c.deref.ensures.0 c.in_ok-put.ensures.bytes in
    let digits = Passes-then g.W.Write.contents c.args.output.now c.put.new.self c.put_hex.new.output line.words.items (encode_lower line.bytes.now) words c.in_ok-put_hex.ensures.bytes in
    subst (Takes g.W.Write.contents c.args.output.now c.put-2.new.self c.put-2.result) c.parts-words.ensures
    (Takes-then g.W.Write.contents c.args.output.now c.put_hex.new.output c.put-2.new.self (line.words.items ++ encode_lower line.bytes.now) line.rest.items c.put-2.result digits
    (subst (Takes g.W.Write.contents c.put_hex.new.output c.put-2.new.self c.put-2.result) c.deref-2.ensures.0 c.put-2.ensures.bytes))
