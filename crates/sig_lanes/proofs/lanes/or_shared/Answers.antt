use Rattle.std.proofs.Common.{◌<◌, ap, ◌∙◌, arith, length, get_or}
use Rattle.std.specs.Prelude.{bit_and, bit_or, replicate}
use Rattle.std.proofs.lemmas.Simd.{get_or-zip2, get_or-replicate, length-zip2}
use lib.Lanes.{zip2}
use Rattle.sig_lanes.proofs.lanes.or_shared.Goals as goal

pub returns : goal.returns
returns c j lt =
    let word = replicate 8 c.args.word in
    let both = zip2 bit_and c.args.lanes word in
    let long = length-zip2 bit_and c.args.lanes word c.fits-lanes.0 in
    let within : j < length both = omega arith in
    let here =
    get_or-zip2 bit_and c.args.lanes word j 0 0 0 (omega arith) lt
    ∙ ap (bit_and (get_or c.args.lanes j 0)) (get_or-replicate 8 j c.args.word 0 lt) in
    get_or-zip2 bit_or c.args.so_far both j 0 0 0 (omega arith) within ∙ ap (bit_or (get_or c.args.so_far j 0)) here
