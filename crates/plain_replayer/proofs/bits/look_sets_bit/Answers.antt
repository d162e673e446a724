use Rattle.std.proofs.Common.{◌≡◌, ◌∙◌, ◌≤◌, ◌||◌, ◌+◌, false, ap, nat_eq, rules, tests, arith}
use Rattle.sig_lanes.specs.Signature.{bit_of}
use Rattle.plain_replayer.proofs.BitLemmas.{any_key, one_key}
use Rattle.plain_replayer.proofs.bits.look_sets_bit.Goals as goal

pub loop-key-preserved : goal.loop-key-preserved
loop-key-preserved c =
    let within : c.loop-key.key ≤ c.args.look.hi = omega arith in
    let other : nat_eq (bit_of (c.args.look.table, c.loop-key.key)) c.args.bit ≡ false = search (rules, tests) in
    c.loop-key.invariant
    ∙ one_key (λ key. nat_eq (bit_of (c.args.look.table, key)) c.args.bit) c.loop-key.key c.args.look.hi within
    ∙ ap (λ b. b || any_key (λ key. nat_eq (bit_of (c.args.look.table, key)) c.args.bit) (c.loop-key.key + 1) c.args.look.hi) other
