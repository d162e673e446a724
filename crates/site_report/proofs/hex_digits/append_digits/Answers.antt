use Rattle.std.proofs.Common.{[], ◌∷◌, take, get_or, refl, sym, subst}
use Rattle.hex.specs.Hex.{encode_with, encode_lower}
use Rattle.report.proofs.PrintingLemmas.{encode_more, told_ok}
use Rattle.site_report.proofs.hex_digits.append_digits.Goals as goal

pub loop-byte-init : goal.loop-byte-init
unfolding encode_with
loop-byte-init g c = g.met.S.ByteSink.nothing c.args.sink.now

pub loop-byte-preserved : goal.loop-byte-preserved
loop-byte-preserved g c =
    let xs = c.args.bytes.now in
    let i = c.loop-byte.byte-index in
    let digits = told_ok c.encode_to_slice.result (c.encode_to_slice.ensures.fits.1 refl) c.encode_to_slice.ensures.written in
    subst (g.S.ByteSink.appends c.args.sink.now c.append.new.self) (sym (encode_more xs i c.loop-byte-test.true))
    (g.met.S.ByteSink.together c.args.sink.now c.loop-byte.sink c.append.new.self (encode_lower (take i xs)) (encode_lower (get_or xs i 0 ∷ [])) c.loop-byte.invariant
    (subst (g.S.ByteSink.appends c.loop-byte.sink c.append.new.self) digits c.append.ensures))
