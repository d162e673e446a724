use Rattle.std.proofs.Common.{take}
use Rattle.bpf_bytes.specs.Spelling.{spelling}
use Rattle.bpf_bytes.proofs.encoding.append_program.Given as goal

abbrev pub invariant-loop-slot : goal.invariant-loop-slot
invariant-loop-slot g l = g.S.ByteSink.appends l.initial.sink l.sink (spelling (take l.slot l.code))
