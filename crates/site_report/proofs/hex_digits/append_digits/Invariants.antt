use Rattle.std.proofs.Common.{take}
use Rattle.hex.specs.Hex.{encode_lower}
use Rattle.site_report.proofs.hex_digits.append_digits.Given as goal

-- the digits of the bytes so far were appended
abbrev pub invariant-loop-byte : goal.invariant-loop-byte
invariant-loop-byte g l = g.S.ByteSink.appends l.initial.sink l.sink (encode_lower (take l.byte-index l.bytes))
