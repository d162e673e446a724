use Rattle.std.proofs.Common.{◌≡◌, ◌-◌, ◌/◌, ℕ, Err, length, ap, ◌∙◌, arith, rules, inr}
use Rattle.std.specs.Prelude.{IsSome}
use Rattle.std.proofs.lemmas.Result.{err_from_is_err_and}
use Rattle.bpf_bytes.specs.declared.fault.DecodeCause.TheVariants.{CutShort}
use Rattle.bpf_bytes.specs.Decoding.{fault}
use Rattle.bpf_bytes.proofs.DecodeLemmas.{IsReadTo-step, IsReadTo-fault, IsReadTo-end, IsReadTo-cut}
use Rattle.bpf_bytes.proofs.decoding.read_slots.Goals as goal

pub loop-slot-preserved : goal.loop-slot-preserved
loop-slot-preserved g c =
    let so_far = c.loop-slot.invariant.0 in (
      IsReadTo-step c.args.bytes.now c.loop-slot.slots.items c.read_slot.new.slots.items c.loop-slot.half c.in_ok-half.half c.loop-slot.slot _ c.from_bytes-fields.result
          (λ i. omega (arith, c.type_inv.bytes i)) (omega arith) (omega arith) c.from_bytes-fields.ensures.value so_far
          c.in_ok-half.ensures.goes_on c.in_ok-half.ensures.half (omega (arith, c.in_ok-half.ensures.count, c.read_slot.new.slots.ok.0, c.loop-slot.slots.ok.0)) c.in_ok-half.ensures.bytes,
      omega (arith, c.read_slot.ensures.capacity),
      c.in_ok-half.ensures.in_range c.loop-slot.invariant.2,
    )

pub returns-in_err-half-clause-err : goal.returns-in_err-half-clause-err
returns-in_err-half-clause-err g c =
    let ended = IsReadTo-fault c.args.bytes.now c.loop-slot.slots.items c.loop-slot.half c.loop-slot.slot _ c.from_bytes-fields.result c.in_err-half.field-0.0
    (omega arith) (omega arith) c.from_bytes-fields.ensures.value c.loop-slot.invariant.0 c.in_err-half.ensures.ends in
    let p = err_from_is_err_and c.from_residual.result c.from_residual.ensures.1 in
    rw (p.1, p.2) (inr ended)

pub returns-then-is_some-clause-err : goal.returns-then-is_some-clause-err
returns-then-is_some-clause-err g c =
    let last : c.loop-slot.slot ≡ length c.args.bytes.now / 8 = omega arith in
    let some : IsSome c.loop-slot.half = search rules in
    inr (IsReadTo-cut c.args.bytes.now c.loop-slot.slots.items c.loop-slot.slot c.loop-slot.half (omega arith) some c.loop-slot.invariant.0
    ∙ ap (λ (k : ℕ). Err (fault CutShort (k - 1))) last)

pub returns-clause-ok : goal.returns-clause-ok
returns-clause-ok g c =
    IsReadTo-end c.args.bytes.now c.loop-slot.slots.items c.loop-slot.slot c.loop-slot.half (omega arith) (search rules) c.loop-slot.invariant.0

pub returns-clause-in_range : goal.returns-clause-in_range
returns-clause-in_range g c = c.loop-slot.invariant.2
