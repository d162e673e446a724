use Rattle.std.proofs.Common.{◌≡◌, ◌∙◌, rules, tests}
use Rattle.std.proofs.lemmas.Iterator.{YieldsList-from_slice}
use Rattle.std.proofs.lemmas.Iterator.Search.{any_from_yields_List}
use Rattle.std.specs.List.{list_any}
use Rattle.sig_lanes.specs.Signature.{bit_of, looks_set_bit}
use Rattle.plain_replayer.proofs.BitLemmas.{any_of_map}
use Rattle.plain_replayer.proofs.bits.shares_bit.Goals as goal

pub returns : goal.returns
returns g c =
    let asked : c.any.result ≡ list_any (λ write. looks_set_bit c.args.looks.now (bit_of write.0)) c.args.writes.now =
    any_from_yields_List (λ write. looks_set_bit c.args.looks.now (bit_of write.0)) _ _ c.any.result c.any.ensures.ran (YieldsList-from_slice c.args.writes.now (search rules)) (λ x b q k. search (rules, tests)) in
    asked ∙ any_of_map (λ k. looks_set_bit c.args.looks.now (bit_of k)) (λ write. write.0) c.args.writes.now
