use Rattle.std.proofs.Common.{◌≡◌, ◌≤◌, ◌<◌, ◌+◌, ℕ, suc, List, length, get_or, set, subst, sym, ap, arith}
use Rattle.row_chain.specs.Slots.{Slot, ArePruned, IsPruned}
use Rattle.row_chain.proofs.EditLemmas.{nil}
use Rattle.row_chain.proofs.ChangedLemmas.{none_changed, length_changed, one_changed, full_changed}
use Rattle.row_chain.proofs.entries.prune_each.Goals as goal

step : (horizon i : ℕ) (es ns new : List Slot) (x : Slot) → ArePruned horizon i es ns → i < length ns → IsPruned horizon (get_or ns i nil) x → new ≡ set ns i x → ArePruned horizon (i + 1) es new
step horizon i es ns new x h lt is e =
    let n : suc i ≡ i + 1 = omega arith in
    subst (λ (k : ℕ). ArePruned horizon k es new) n (subst (ArePruned horizon (suc i) es) (sym e) (one_changed (IsPruned horizon) i es ns x nil h lt is))

pub loop-i-init : goal.loop-i-init
loop-i-init g c = none_changed (IsPruned c.args.horizon) c.args.entries.now.items

within : (horizon i : ℕ) (es ns d : List Slot) → ArePruned horizon i es ns → d ≡ es → i < length d → i < length ns
within horizon i es ns d h same lt = let n = length_changed (IsPruned horizon) i es ns h in let m = ap (λ (l : List Slot). length l) same in omega arith

pub prune_at-requires : goal.prune_at-requires
prune_at-requires g c = within c.args.horizon c.loop-i.i c.args.entries.now.items c.loop-i.entries.items c.deref-all.result.now c.loop-i.invariant c.deref-all.ensures.value c.loop-i-test.true

pub loop-i-preserved : goal.loop-i-preserved
loop-i-preserved g c = let p = c.prune_at.ensures nil in
    step c.args.horizon c.loop-i.i c.args.entries.now.items c.loop-i.entries.items c.prune_at.new.entries.items (get_or c.prune_at.new.entries.items c.loop-i.i nil) c.loop-i.invariant
    (within c.args.horizon c.loop-i.i c.args.entries.now.items c.loop-i.entries.items c.deref-all.result.now c.loop-i.invariant c.deref-all.ensures.value c.loop-i-test.true) p.0 p.1

ended : (d es : List Slot) (i : ℕ) → d ≡ es → length d ≤ i → length es ≤ i
ended d es i same le = let m = ap (λ (l : List Slot). length l) same in omega arith

pub returns : goal.returns
returns g c = full_changed (IsPruned c.args.horizon) c.loop-i.i c.args.entries.now.items c.loop-i.entries.items c.loop-i.invariant (ended c.deref-all.result.now c.args.entries.now.items c.loop-i.i c.deref-all.ensures.value c.loop-i-test.false)
