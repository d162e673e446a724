use Rattle.std.proofs.Common.{◌∙◌, sym, arith}
use Rattle.std.specs.Prelude.{is_ok}
use Rattle.std.proofs.lemmas.Bool.{false≢true}
use Rattle.key_table.proofs.PageEditLemmas.{halves_done}
use Rattle.key_table.proofs.edits.split_group.Goals as goal

pub prove-unreachable-requires : goal.prove-unreachable-requires
prove-unreachable-requires g c =
    false≢true (sym c.if-prove.true ∙ c.is_ok.ensures.value ∙ c.insert-inserted.ensures.succeeds (omega (arith, c.in_ok-reserve.ensures.ok, c.in_ok-upper.ensures.room, c.in_ok-upper.ensures.len)))

pub returns-clause-done : goal.returns-clause-done
returns-clause-done g c d =
    halves_done 128 c.args.groups.now.items c.reserve.new.self.items c.take_upper.new.groups.items c.insert-inserted.new.self.items c.args.at (is_ok c.insert-inserted.result) c.in_ok-upper.upper d
    c.requires.at c.in_ok-reserve.ensures.items (c.in_ok-upper.ensures.lower d) (c.in_ok-upper.ensures.upper d) c.insert-inserted.ensures.items (sym c.is_ok.ensures.value ∙ c.if-prove.false)
