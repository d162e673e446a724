use Rattle.std.proofs.Common.{◌∙◌, ap, ◌||◌, Bool, arith}
use Rattle.std.specs.List.{list_any}
use Rattle.schema.specs.declared.look.Look.{Look}
use Rattle.sig_lanes.specs.Signature.{look_sets_bit}
use Rattle.sig_lanes.specs.Bits.{has_bit}
use Rattle.sig_lanes.proofs.BitLemmas.{gathered, all_gathered}
use Rattle.sig_lanes.proofs.sig.Sig.of_reads.Goals as goal

abbrev no_look : Look
no_look = record { table = 0; lo = 0; hi = 0 }

pub loop-index-init : goal.loop-index-init
loop-index-init g c b lt =
    ap (λ (x : Bool). x || list_any (look_sets_bit b) c.looks-looks.result.now) (c.empty-sig.ensures b)
    ∙ ap (list_any (look_sets_bit b)) c.looks-looks.ensures

pub loop-index-preserved : goal.loop-index-preserved
loop-index-preserved g c b lt =
    gathered (look_sets_bit b) c.looks-looks.result.now c.loop-index.index no_look (has_bit c.add_look.new.self b) (has_bit c.loop-index.sig b) _ (omega arith) (c.add_look.ensures b lt) (c.loop-index.invariant b lt)

pub returns : goal.returns
returns g c b lt = all_gathered (look_sets_bit b) c.looks-looks.result.now c.loop-index.index (has_bit c.loop-index.sig b) _ (omega arith) (c.loop-index.invariant b lt)
