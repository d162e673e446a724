use Rattle.std.proofs.Common.{◌∙◌, ap, sym, ◌||◌, Bool, ℕ, map, nat_eq}
use Rattle.std.specs.Slice.Iter.{iter_rest}
use Rattle.std.proofs.lemmas.List.{nil_from_length}
use Rattle.std.specs.List.{list_any}
use Rattle.sig_lanes.specs.Signature.{bit_of}
use Rattle.sig_lanes.specs.Bits.{has_bit}
use Rattle.sig_lanes.proofs.BitLemmas.{moved, or_false}
use Rattle.sig_lanes.proofs.sig.Sig.of_writes.Goals as goal

pub loop-key-init : goal.loop-key-init
loop-key-init g c b =
    let whole = ap iter_rest c.into_iter-key-iterator.ensures.into_iter_gives ∙ c.iter-key-items.ensures.rest in
    ap (λ (x : Bool). x || list_any (λ k. nat_eq (bit_of k) b) (map (λ e. e.0) (iter_rest c.into_iter-key-iterator.result))) (c.empty-sig.ensures b)
    ∙ ap (λ xs. list_any (λ k. nat_eq (bit_of k) b) (map (λ e. e.0) xs)) whole

pub loop-key-preserved : goal.loop-key-preserved
loop-key-preserved g c b =
    moved (has_bit c.add_bit.new.self b) (has_bit c.loop-key.sig b) (nat_eq (bit_of c.in-Some.field-0.now.0) b) _ _
    (c.add_bit.ensures b ∙ ap (λ (n : ℕ). has_bit c.loop-key.sig b || nat_eq n b) c.bit_of.ensures.value)
    (sym (ap (λ xs. has_bit c.loop-key.sig b || list_any (λ k. nat_eq (bit_of k) b) (map (λ e. e.0) xs)) c.in-Some.ensures.steps) ∙ c.loop-key.invariant b)

pub returns : goal.returns
returns g c b lt = sym (or_false _) ∙ sym (ap (λ xs. has_bit c.loop-key.sig b || list_any (λ k. nat_eq (bit_of k) b) (map (λ e. e.0) xs)) (nil_from_length _ c.in-None.ensures.steps.0)) ∙ c.loop-key.invariant b
