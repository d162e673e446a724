use Rattle.std.proofs.Common.{ℕ, List, [], length, get_or, set, sym, ap, ◌∙◌}
use Rattle.std.proofs.lemmas.List.{length-set}
use Rattle.key_table.specs.Table.{Slot}
use Rattle.key_table.specs.Pages.{all_slots, least_key}
use Rattle.key_table.proofs.LeastLemmas.{one_noted}
use Rattle.key_table.specs.Groups.{group_slots}
use Rattle.key_table.proofs.PartLemmas.{within, part_at, length-group_slots}
use Rattle.key_table.proofs.edits.note_all.Goals as goal

pub loop-at-preserved : goal.loop-at-preserved
loop-at-preserved g c =
    let gs = c.args.groups.now in let ls = c.loop-at.least.items in let i = c.loop-at.at in
    record {
      len = ap (λ (l : List ℕ). length l) (c.set_least.ensures []) ∙ length-set ls i (least_key (all_slots (get_or gs i []))) ∙ c.loop-at.invariant.len;
      noted = one_noted (group_slots gs) ls c.set_least.new.least.items i (within gs i c.loop-at-test.true) (c.loop-at.invariant.len ∙ sym (length-group_slots gs)) c.loop-at.invariant.noted
          (c.set_least.ensures [] ∙ ap (λ (p : List Slot). set ls i (least_key p)) (sym (part_at gs i)));
    }
