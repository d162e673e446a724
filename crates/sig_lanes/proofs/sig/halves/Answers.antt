use Rattle.std.proofs.Common.{◌∙◌, ◌++◌, take, drop, take_all, ap, arith}
use Rattle.std.proofs.lemmas.List.{length-take-le, length-drop, take-append-drop}
use Rattle.sig_lanes.proofs.sig.halves.Goals as goal

pub returns : goal.returns
returns c =
    let words = c.args.words.now in
    let low = length-take-le 8 words (omega arith) in
    let high = length-drop 8 words in
    ap (λ half. half ++ take 8 (take 8 (drop 8 words))) (take_all 8 (take 8 words) (omega arith))
    ∙ ap (λ half. take 8 words ++ take 8 half) (take_all 8 (drop 8 words) (omega arith))
    ∙ ap (λ half. take 8 words ++ half) (take_all 8 (drop 8 words) (omega arith))
    ∙ take-append-drop 8 words
