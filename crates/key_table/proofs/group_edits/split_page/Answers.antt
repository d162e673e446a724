use Rattle.std.proofs.Common.{◌∙◌, sym, arith}
use Rattle.std.specs.Prelude.{is_ok}
use Rattle.std.proofs.lemmas.Bool.{false≢true}
use Rattle.key_table.proofs.PageEditLemmas.{halves_done}
use Rattle.key_table.proofs.group_edits.split_page.Goals as goal

pub prove-unreachable-requires : goal.prove-unreachable-requires
prove-unreachable-requires g c =
    false≢true (sym c.if-prove.true ∙ c.is_ok.ensures.value ∙ c.insert-inserted.ensures.succeeds (omega (arith, c.in_ok-reserve.ensures.ok, c.in_ok-upper.ensures.room, c.in_ok-upper.ensures.len)))

pub returns-clause-done : goal.returns-clause-done
returns-clause-done g c p =
    halves_done 32 c.args.pages.now.items c.reserve.new.self.items c.take_upper.new.pages.items c.insert-inserted.new.self.items c.args.page (is_ok c.insert-inserted.result) c.in_ok-upper.upper p
    c.requires.page c.in_ok-reserve.ensures.items (c.in_ok-upper.ensures.lower p) (c.in_ok-upper.ensures.upper p) c.insert-inserted.ensures.items (sym c.is_ok.ensures.value ∙ c.if-prove.false)
