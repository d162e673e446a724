use Rattle.std.proofs.Common.{◌∙◌, ap, ◌+◌, ◌*◌, ◌%◌, ◌/◌, ◌^◌, ℕ}
use Rattle.plain_replayer.proofs.BitLemmas.{bit_by_words}
use Rattle.plain_replayer.proofs.bits.bit_of.Goals as goal

pub returns : goal.returns
returns c =
    ap (λ (table : ℕ). (c.args.key * 0x9E3779B97F4A7C15 % 2 ^ 64 + table * 0xC2B2AE3D27D4EB4F % 2 ^ 64) % 2 ^ 64 / 2 ^ 54) c.from-table.ensures
    ∙ bit_by_words c.args.table c.args.key
