use Rattle.std.proofs.Common.{◌≡◌, ℕ, List, Some}
use Rattle.byte_output.specs.Pending.{output_of}
use Rattle.script.specs.Text.{lines_of}
use Rattle.script_replay.specs.Doing.{stage_of}
use Rattle.script_replay.proofs.SoFarLemmas.{SoFar}
use Rattle.script_replay.proofs.replay.replay.Given as goal

abbrev pub invariant-loop-number : goal.invariant-loop-number
invariant-loop-number g l = ((output_of l.output).ghost_name ≡ (output_of l.initial.output).ghost_name)
    × ((bytes : List ℕ) → g.R.Read.remaining l.initial.input ≡ Some bytes
    → (rest : List ℕ) × (g.R.Read.remaining l.input ≡ Some rest) × SoFar _ g.W.Write.contents (stage_of l.stage) l.number (lines_of bytes) (lines_of rest) l.initial.output l.output)
