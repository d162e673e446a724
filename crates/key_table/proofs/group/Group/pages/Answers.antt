use Rattle.std.proofs.Common.{◌≡◌, ◌≤◌, ◌*◌, List, length, ap, arith}
use Rattle.row_chain.specs.Slots.{Slot}
use Rattle.key_table.specs.Pages.{all_slots}
use Rattle.key_table.proofs.PlaceLemmas.{length-pages}
use Rattle.key_table.proofs.group.Group.pages.Goals as goal

bounds : (ps d : List (List Slot)) (es : List Slot) → d ≡ ps → all_slots ps ≡ es → (length ps ≤ length (all_slots ps)) × (length (all_slots ps) ≤ 64 * length ps) → (length d ≤ length es) × (length es ≤ 64 * length d)
bounds ps d es same is both =
    let least : length ps ≤ length (all_slots ps) = both.0 in
    let most : length (all_slots ps) ≤ 64 * length ps = both.1 in
    let n : length d ≡ length ps = ap (λ (l : List (List Slot)). length l) same in
    let m : length (all_slots ps) ≡ length es = ap (λ (l : List Slot). length l) is in
    (omega arith, omega arith)

pub returns-clause-few : goal.returns-clause-few
returns-clause-few g c = (bounds c.self.inside.pages.items c.deref-pages.result.now (all_slots c.args.self.now) c.deref-pages.ensures.value (ap all_slots c.self.view_is) (length-pages 64 c.self.inside.pages.items c.self.invariant.0.filled)).0

pub returns-clause-enough : goal.returns-clause-enough
returns-clause-enough g c = (bounds c.self.inside.pages.items c.deref-pages.result.now (all_slots c.args.self.now) c.deref-pages.ensures.value (ap all_slots c.self.view_is) (length-pages 64 c.self.inside.pages.items c.self.invariant.0.filled)).1
