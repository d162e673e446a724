use Rattle.std.proofs.Common.{rules, ◌≡◌, ap, length, take, arith, FitsSigned}
use Rattle.std.specs.Int.{w16}
use Rattle.std.proofs.lemmas.Int.{to_z-of_z}
use Rattle.bpf_code.specs.Sizes.{load_bytes}
use Rattle.vm_state.specs.Words.{word}
use Rattle.vm_state.specs.Access.{at_slot, bytes_from, offset_address}
use Rattle.vm_state.proofs.Loading.{can_load, load_holds, load_long, some_bytes}
use Rattle.vm_state.proofs.state.WordState.load.Goals as goal

pub bytes-requires-2 : goal.bytes-requires-2
bytes-requires-2 c =
    let fits : FitsSigned w16 c.args.flat.now.offset = search rules in
    let count : c.from.result ≡ load_bytes c.args.kind = search rules in
    let can = can_load c.args.kind c.args.flat.now.dst c.args.flat.now.src c.args.flat.now.offset (at_slot c.args.at c.args.self.now) fits c.requires.can in
    rw (simp to_z-of_z at c.address-address.ensures, count)
    (record { stack = can.stack; args = can.args })

pub load_value-value-requires-clause-some : goal.load_value-value-requires-clause-some
load_value-value-requires-clause-some c =
    let m = at_slot c.args.at c.args.self.now in
    let fits : FitsSigned w16 c.args.flat.now.offset = search rules in
    let count : c.from.result ≡ load_bytes c.args.kind = search rules in
    let some = some_bytes c.args.kind in
    let long : length c.bytes-2.result.now ≡ load_bytes c.args.kind =
    rw (c.bytes-2.ensures, count, simp to_z-of_z at c.address-address.ensures)
    (load_long c.args.kind c.args.flat.now.dst c.args.flat.now.src c.args.flat.now.offset m fits c.requires.can) in
    omega (arith, some, long)

pub returns : goal.returns
returns c = record {
  plain = tt;
  further = search rules;
  held = λ tables s h.
      let m = at_slot c.args.at c.args.self.now in
      let fits : FitsSigned w16 c.args.flat.now.offset = search rules in
      let count : c.from.result ≡ load_bytes c.args.kind = search rules in
      let bytes : c.bytes-2.result.now ≡ take (load_bytes c.args.kind) (bytes_from m (offset_address (word m c.args.flat.now.src) c.args.flat.now.offset)) =
      rw (c.bytes-2.ensures, count) (ap (λ a. take (load_bytes c.args.kind) (bytes_from m a)) (simp to_z-of_z at c.address-address.ensures)) in
      rw (c.with_result.ensures.state, c.load_value-value.ensures)
      (load_holds tables s m c.args.kind c.args.flat.now.dst c.args.flat.now.src c.args.flat.now.offset c.bytes-2.result.now fits bytes h);
}
