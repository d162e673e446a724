use Rattle.std.proofs.Common.{◌≡◌, ◌<◌, ◌≤◌, length, None, Ok, arith, rules}
use Rattle.bpf_code.specs.Program.{max_slots}
use Rattle.bpf_bytes.specs.Fields.{slots_of}
use Rattle.bpf_bytes.specs.Decoding.{reading_of_slots, jump_faults, exit_fault}
use Rattle.bpf_bytes.proofs.ProgramLemmas.{AreSlots-reading_of, all_land, ends_with_exit}
use Rattle.bpf_bytes.proofs.decoding.program.Goals as goal

pub new-requires : goal.new-requires
new-requires g c =
    let p = c.in_ok-slots.slots.items in
    let read : reading_of_slots None 0 (slots_of c.args.bytes.now) ≡ Ok p = c.in_ok-slots.ensures.ok in
    let jumps : jump_faults p 0 p ≡ None = search rules in
    let exit : exit_fault p ≡ None = search rules in
    let bytes : 0 < length c.args.bytes.now = search rules in
    let some : 0 < length p = omega (arith, c.in_ok-slots.ensures.count, c.in_ok-slots.slots.ok.0) in
    let short : length p ≤ max_slots = omega (arith, c.in_ok-slots.ensures.count, c.in_ok-slots.slots.ok.0) in
    record {
      not_empty = some;
      not_long = short;
      slots = AreSlots-reading_of (slots_of c.args.bytes.now) None 0 p tt read;
      jumps = all_land p jumps;
      in_range = c.in_ok-slots.ensures.in_range;
      ends = ends_with_exit p exit;
    }
