-- The widths of words.
use Rattle.std.specs.Prelude.{ℕ}
use Rattle.interval.specs.declared.width.Width.{Width}
use Rattle.interval.specs.declared.width.Width.TheVariants.{Bits32, Bits64}

-- the number of bits
abbrev pub width_bits : Width → ℕ
width_bits Bits32 = 32
width_bits Bits64 = 64
