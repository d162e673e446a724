use Rattle.std.proofs.Common.{◌≡◌, ◌≤◌, ◌<◌, ◌+◌, ℕ, suc, List, [], length, get_or, set, subst, sym, ap, arith}
use Rattle.row_chain.specs.Slots.{Slot}
use Rattle.key_table.specs.Pages.{ArePagesPruned, IsPrunedTo}
use Rattle.row_chain.proofs.ChangedLemmas.{none_changed, length_changed, one_changed, full_changed}
use Rattle.key_table.proofs.group_edits.prune_each.Goals as goal

step : (horizon i : ℕ) (es ns new : List (List Slot)) (x : List Slot) → ArePagesPruned horizon i es ns → i < length ns → IsPrunedTo horizon (get_or ns i []) x → new ≡ set ns i x → ArePagesPruned horizon (i + 1) es new
step horizon i es ns new x h lt is e =
    let n : suc i ≡ i + 1 = omega arith in
    subst (λ (k : ℕ). ArePagesPruned horizon k es new) n (subst (ArePagesPruned horizon (suc i) es) (sym e) (one_changed (IsPrunedTo horizon) i es ns x [] h lt is))

pub loop-i-init : goal.loop-i-init
loop-i-init g c = none_changed (IsPrunedTo c.args.horizon) c.args.pages.now.items

within : (horizon i : ℕ) (es ns d : List (List Slot)) → ArePagesPruned horizon i es ns → d ≡ es → i < length d → i < length ns
within horizon i es ns d h same lt = let n = length_changed (IsPrunedTo horizon) i es ns h in let m = ap (λ (l : List (List Slot)). length l) same in omega arith

pub prune_at-requires : goal.prune_at-requires
prune_at-requires g c = within c.args.horizon c.loop-i.i c.args.pages.now.items c.loop-i.pages.items c.deref-all.result.now c.loop-i.invariant c.deref-all.ensures.value c.loop-i-test.true

pub loop-i-preserved : goal.loop-i-preserved
loop-i-preserved g c = let p = c.prune_at.ensures [] in
    step c.args.horizon c.loop-i.i c.args.pages.now.items c.loop-i.pages.items c.prune_at.new.pages.items (get_or c.prune_at.new.pages.items c.loop-i.i []) c.loop-i.invariant
    (within c.args.horizon c.loop-i.i c.args.pages.now.items c.loop-i.pages.items c.deref-all.result.now c.loop-i.invariant c.deref-all.ensures.value c.loop-i-test.true) p.0 p.1

ended : (d es : List (List Slot)) (i : ℕ) → d ≡ es → length d ≤ i → length es ≤ i
ended d es i same le = let m = ap (λ (l : List (List Slot)). length l) same in omega arith

pub returns : goal.returns
returns g c = full_changed (IsPrunedTo c.args.horizon) c.loop-i.i c.args.pages.now.items c.loop-i.pages.items c.loop-i.invariant (ended c.deref-all.result.now c.args.pages.now.items c.loop-i.i c.deref-all.ensures.value c.loop-i-test.false)
