use Rattle.std.proofs.Common.{◌≡◌, ℕ, ◌+◌, ◌<◌, ◌++◌, length, Option, take, drop, sym, ap, subst, ◌∙◌, arith}
use Rattle.std.proofs.lemmas.Result.{err_from_is_err_and}
use Rattle.byte_output.specs.Writes.{AppendsBeginning}
use Rattle.byte_output.specs.Pending.{output_of, pending_of, Passes}
use Rattle.byte_output.proofs.PendingLemmas.{AppendsBeginning-given, Passes-then}
use Rattle.bpf_code.specs.declared.instruction.Instruction.{Instruction}
use Rattle.bpf_code.specs.Program.{Program, instruction_at}
use Rattle.bpf_list.specs.Listing.{line_at, lines, listing_of}
use Rattle.bpf_list.proofs.LinesLemmas.{lines-split, lines-take}
use Rattle.bpf_list.proofs.put_listing.Goals as goal

-- the listing, split at what was read at a slot
split_by : (p : Program) (slot : ℕ) (begins : Option Instruction) → begins ≡ instruction_at p slot → slot < length p
    → lines 0 (take slot p) ++ (line_at slot begins ++ lines (slot + 1) (drop (slot + 1) p)) ≡ listing_of p
split_by p slot begins is within = ap (λ (s : Option Instruction). lines 0 (take slot p) ++ (line_at slot s ++ lines (slot + 1) (drop (slot + 1) p))) is ∙ sym (lines-split p slot within)

pub returns-in_err-put_line-clause-bytes : goal.returns-in_err-put_line-clause-bytes
returns-in_err-put_line-clause-bytes g c =
    let written = AppendsBeginning-given g.W.Write.contents c.args.output.now c.loop-slot.output (g.W.Write.contents (output_of c.put_line.new.output).now)
    (lines 0 (take c.loop-slot.slot c.args.code.now)) (line_at c.loop-slot.slot c.at.result) (lines (c.loop-slot.slot + 1) (drop (c.loop-slot.slot + 1) c.args.code.now))
    c.loop-slot.invariant.1 c.in_err-put_line.ensures.bytes in
    let q = err_from_is_err_and c.from_residual.result c.from_residual.ensures.1 in
    rw q.1 (subst (λ t. AppendsBeginning (g.W.Write.contents (output_of c.args.output.now).now) (g.W.Write.contents (output_of c.put_line.new.output).now) (pending_of c.args.output.now ++ t))
    (split_by c.args.code.now c.loop-slot.slot c.at.result c.at.ensures.instruction (omega arith)) written)

-- one line more
lines_more : (p : Program) (slot : ℕ) (begins : Option Instruction) → begins ≡ instruction_at p slot → slot < length p
    → lines 0 (take slot p) ++ line_at slot begins ≡ lines 0 (take (slot + 1) p)
lines_more p slot begins is within = ap (λ (s : Option Instruction). lines 0 (take slot p) ++ line_at slot s) is ∙ sym (lines-take p slot within)

pub loop-slot-preserved : goal.loop-slot-preserved
loop-slot-preserved g c =
    let one = Passes-then g.W.Write.contents c.args.output.now c.loop-slot.output c.put_line.new.output
    (lines 0 (take c.loop-slot.slot c.args.code.now)) (line_at c.loop-slot.slot c.at.result) c.loop-slot.invariant.1 c.in_ok-put_line.ensures.bytes in (
      c.in_ok-put_line.ensures.same_output ∙ c.loop-slot.invariant.0,
      subst (Passes g.W.Write.contents c.args.output.now c.put_line.new.output) (lines_more c.args.code.now c.loop-slot.slot c.at.result c.at.ensures.instruction (omega arith)) one,
    )
