use Rattle.std.proofs.Common.{◌≡◌, ℕ, ◌+◌, List, length, Some}
use Rattle.script.specs.Text.{lines_of}
use Rattle.script.specs.Said.{said_from}
use Rattle.script.proofs.lines.read_lines.Given as goal

-- the lines that are left come to behind what was read so far what all lines come to, and are counted behind the number
abbrev pub invariant-loop-number : goal.invariant-loop-number
invariant-loop-number g l = (bytes : List ℕ) → g.R.Read.remaining l.initial.input ≡ Some bytes
    → (rest : List ℕ) × (g.R.Read.remaining l.input ≡ Some rest)
    × (said_from g.L.LineReader.with_next g.L.LineReader.at_end g.L.LineReader.nothing_read 1 (lines_of bytes)
    ≡ said_from g.L.LineReader.with_next g.L.LineReader.at_end (g.L.LineReader.read_so_far l.reader) l.number (lines_of rest))
    × (l.number + length (lines_of rest) ≡ 1 + length (lines_of bytes))
