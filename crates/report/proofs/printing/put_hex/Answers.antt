use Rattle.std.proofs.Common.{◌≡◌, ◌∙◌, ℕ, ◌+◌, List, [], ◌∷◌, ◌++◌, take, drop, get_or, refl, sym, ap, subst}
use Rattle.std.proofs.lemmas.Result.{err_from_is_err_and}
use Rattle.hex.specs.Hex.{encode_with, encode_lower}
use Rattle.byte_output.specs.Writes.{AppendsBeginning}
use Rattle.byte_output.specs.Pending.{output_of, pending_of, Passes}
use Rattle.byte_output.proofs.PendingLemmas.{Passes-then, AppendsBeginning-given}
use Rattle.report.proofs.PrintingLemmas.{encode_more, encode_split, told_ok, nothing_given}
use Rattle.report.proofs.printing.put_hex.Goals as goal

pub loop-byte-init : goal.loop-byte-init
unfolding encode_with
loop-byte-init g c = record {
  given = nothing_given g.W.Write.contents c.args.output.now;
  same = refl;
}

pub loop-byte-preserved : goal.loop-byte-preserved
loop-byte-preserved g c =
    let xs = c.args.bytes.now in
    let i = c.loop-byte.byte-index in
    let digits = told_ok c.encode_to_slice.result (c.encode_to_slice.ensures.fits.1 refl) c.encode_to_slice.ensures.written in
    record {
      given = subst (Passes g.W.Write.contents c.args.output.now c.put.new.self) (sym (encode_more xs i c.loop-byte-test.true))
          (Passes-then g.W.Write.contents c.args.output.now c.loop-byte.output c.put.new.self (encode_lower (take i xs)) (encode_lower (get_or xs i 0 ∷ [])) c.loop-byte.invariant.given
          (subst (Passes g.W.Write.contents c.loop-byte.output c.put.new.self) digits c.in_ok-put.ensures.bytes));
      same = c.in_ok-put.ensures.same_output ∙ c.loop-byte.invariant.same;
    }

pub returns-in_err-put-clause-bytes : goal.returns-in_err-put-clause-bytes
returns-in_err-put-clause-bytes g c =
    let xs = c.args.bytes.now in
    let i = c.loop-byte.byte-index in
    let old = g.W.Write.contents (output_of c.args.output.now).now in
    let new = g.W.Write.contents (output_of c.put.new.self).now in
    let digits = told_ok c.encode_to_slice.result (c.encode_to_slice.ensures.fits.1 refl) c.encode_to_slice.ensures.written in
    let q = err_from_is_err_and c.from_residual.result c.from_residual.ensures.1 in
    rw q.1 (subst (λ (t : List ℕ). AppendsBeginning old new (pending_of c.args.output.now ++ t)) (sym (encode_split xs i c.loop-byte-test.true))
    (AppendsBeginning-given g.W.Write.contents c.args.output.now c.loop-byte.output new (encode_lower (take i xs)) (encode_lower (get_or xs i 0 ∷ [])) (encode_lower (drop (i + 1) xs)) c.loop-byte.invariant.given
    (subst (λ (t : List ℕ). AppendsBeginning (g.W.Write.contents (output_of c.loop-byte.output).now) new (pending_of c.loop-byte.output ++ t)) digits c.in_err-put.ensures.bytes)))
