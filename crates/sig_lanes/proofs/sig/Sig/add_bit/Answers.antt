use Rattle.std.proofs.Common.{◌∙◌, ap, arith, nat_eq, ◌||◌}
use Rattle.sig_lanes.specs.Bits.{has_bit}
use Rattle.sig_lanes.proofs.BitLemmas.{one_more}
use Rattle.sig_lanes.proofs.sig.Sig.add_bit.Goals as goal

pub returns : goal.returns
returns c b =
    one_more c.self.inside.words c.args.bit b (omega arith)
    ∙ ap (λ ws. has_bit ws b || nat_eq c.args.bit b) c.self.view_is
