use Rattle.std.proofs.Common.{◌≡◌, ℕ, List, ◌+◌, ◌++◌, ◌∙◌, Option, arith, ap, sym, subst, take}
use Rattle.bpf_code.specs.declared.instruction.Instruction.{Instruction}
use Rattle.bpf_bytes.specs.Spelling.{spelling, spelling_at}
use Rattle.bpf_bytes.proofs.SpellingLemmas.{spelling-take}
use Rattle.bpf_bytes.proofs.encoding.append_program.Goals as goal

pub loop-slot-preserved : goal.loop-slot-preserved
loop-slot-preserved g c =
    let so_far : List ℕ = spelling (take c.loop-slot.slot c.args.code.now) in
    let text : so_far ++ spelling_at c.at.result ≡ spelling (take (c.loop-slot.slot + 1) c.args.code.now) =
    ap (λ (s : Option Instruction). so_far ++ spelling_at s) c.at.ensures.instruction
    ∙ sym (spelling-take c.args.code.now c.loop-slot.slot (omega arith)) in
    subst (λ (bytes : List ℕ). g.S.ByteSink.appends c.args.sink.now c.append_at.new.sink bytes) text
    (g.met.S.ByteSink.together c.args.sink.now c.loop-slot.sink c.append_at.new.sink so_far (spelling_at c.at.result) c.loop-slot.invariant c.append_at.ensures)
