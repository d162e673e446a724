use Rattle.std.proofs.Common.{◌≡◌, sym, subst, [], false, rules}
use Rattle.bpf_code.specs.Program.{is_wide, IsInRange, AllInRange}
use Rattle.bpf_bytes.specs.Fields.{bytes_of}
use Rattle.bpf_bytes.specs.Spelling.{fields_of, second_half}
use Rattle.bpf_bytes.specs.Steps.{half_bytes}
use Rattle.bpf_bytes.proofs.ProgramLemmas.{AllInRange-push, AllInRange-second}
use Rattle.bpf_bytes.proofs.SpellingLemmas.{pushes_short, pushes_wide}
use Rattle.bpf_bytes.proofs.decoding.read_slot.Goals as goal

pub returns-in_default-clause-bytes : goal.returns-in_default-clause-bytes
returns-in_default-clause-bytes g c =
    let i = c.in_ok-instruction.instruction in
    let spelled : fields_of i ≡ c.args.fields.now = search rules in
    let short : is_wide i ≡ false = search rules in
    let none : half_bytes c.args.half ≡ [] = search rules in
    pushes_short c.args.slots.now.items _ _ i c.args.fields.now c.push_reserved.ensures.items short spelled none

pub returns-clause-bytes : goal.returns-clause-bytes
returns-clause-bytes g c =
    let spelled : second_half c.in_ok-high.high ≡ c.args.fields.now = search rules in
    let half : half_bytes c.args.half ≡ bytes_of (fields_of c.in-Some.first) = search rules in
    pushes_wide c.args.slots.now.items c.push_reserved-2.new.self.items _ _ c.completed_load.result (fields_of c.in-Some.first) (second_half c.in_ok-high.high) c.args.fields.now
    c.push_reserved-2.ensures.items c.push_reserved-3.ensures.items c.completed_load.ensures.bytes half spelled

pub returns-in_default-clause-in_range : goal.returns-in_default-clause-in_range
returns-in_default-clause-in_range g c =
    let fits : IsInRange c.in_ok-instruction.instruction = search rules in
    λ all. subst AllInRange (sym c.push_reserved.ensures.items) (AllInRange-push c.args.slots.now.items c.in_ok-instruction.instruction all fits)

pub returns-clause-in_range : goal.returns-clause-in_range
returns-clause-in_range g c = λ all.
    let first = subst AllInRange (sym c.push_reserved-2.ensures.items) (AllInRange-push c.args.slots.now.items c.completed_load.result all c.completed_load.ensures.in_range) in
    subst AllInRange (sym c.push_reserved-3.ensures.items) (AllInRange-second c.push_reserved-2.new.self.items first)
