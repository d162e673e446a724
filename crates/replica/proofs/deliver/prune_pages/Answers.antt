use Rattle.std.proofs.Common.{◌∙◌, ◌≤◌, arith}
use Rattle.replica.proofs.deliver.prune_pages.Goals as goal

pub returns-then-prune_page-clause-seen : goal.returns-then-prune_page-clause-seen
returns-then-prune_page-clause-seen g c s rows from old =
    let horizon = c.prune_page.ensures.horizon in
    let before = c.loop.invariant.horizon in
    let le : c.prune_page.new.self.horizon ≤ s = omega arith in
    c.answers_after_pruning_in_part.ensures s c.prune_page.new.self.horizon c.loop.versions.tables c.prune_page.new.self.tables rows c.prune_page.ensures.pruned le (c.loop.invariant.seen s rows from old)

pub loop-preserved : goal.loop-preserved
loop-preserved g c =
    let horizon = c.prune_page.ensures.horizon in
    let before = c.loop.invariant.horizon in
    record {
      seen = λ s rows from old.
          let le : c.prune_page.new.self.horizon ≤ s = omega arith in
          c.answers_after_pruning_in_part.ensures s c.prune_page.new.self.horizon c.loop.versions.tables c.prune_page.new.self.tables rows c.prune_page.ensures.pruned le (c.loop.invariant.seen s rows from old);
      horizon = omega arith;
      widths = λ t. c.prune_page.ensures.widths t ∙ c.loop.invariant.widths t;
      tables = c.prune_page.ensures.count ∙ c.loop.invariant.tables;
    }
