use Rattle.std.proofs.Common.{ℕ, List, [], length, get_or, ap, ◌∙◌}
use Rattle.std.proofs.lemmas.List.{length-set}
use Rattle.key_table.specs.Pages.{least_key}
use Rattle.key_table.proofs.LeastLemmas.{one_noted}
use Rattle.key_table.proofs.group_edits.note_all.Goals as goal

pub loop-page-preserved : goal.loop-page-preserved
loop-page-preserved g c =
    let ps = c.args.pages.now in let ls = c.loop-page.least.items in let i = c.loop-page.page in
    record {
      len = ap (λ (l : List ℕ). length l) (c.set_least.ensures []) ∙ length-set ls i (least_key (get_or ps i [])) ∙ c.loop-page.invariant.len;
      noted = one_noted ps ls c.set_least.new.least.items i c.loop-page-test.true c.loop-page.invariant.len c.loop-page.invariant.noted (c.set_least.ensures []);
    }
