use Rattle.std.proofs.Common.{◌≡◌, ◌+◌, ◌∙◌, List, length, drop, ap, arith}
use Rattle.std.proofs.lemmas.List.{length-append}
use Rattle.key_table.specs.Table.{Slot}
use Rattle.key_table.specs.Pages.{all_slots}
use Rattle.key_table.proofs.PlaceLemmas.{drop_page}
use Rattle.key_table.specs.Groups.{group_slots}
use Rattle.key_table.proofs.PartLemmas.{within, part}
use Rattle.key_table.proofs.groups.pages.Goals as goal

pub loop-group-preserved : goal.loop-group-preserved
loop-group-preserved g c =
    let gs = c.args.groups.now in let i = c.loop-group.group-index in let p = all_slots c.group-item.result in
    let len : length (all_slots (drop i (group_slots gs))) ≡ length p + length (all_slots (drop (i + 1) (group_slots gs))) =
    ap (λ (l : List (List Slot)). length (all_slots l)) (drop_page (group_slots gs) i p (within gs i (omega arith)) (part gs i c.group-item.result c.group-item.is)) ∙ length-append p (all_slots (drop (i + 1) (group_slots gs))) in
    record {
      most = omega (arith, c.pages-found.ensures.most, c.loop-group.invariant.most);
      few = omega (arith, len, c.pages-found.ensures.few, c.loop-group.invariant.few);
      enough = omega (arith, len, c.pages-found.ensures.enough, c.loop-group.invariant.enough);
    }
