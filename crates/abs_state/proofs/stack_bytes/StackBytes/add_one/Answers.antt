use Rattle.std.proofs.Common.{◌∙◌, sym, ap, arith, length, set}
use Rattle.std.specs.Prelude.{true}
use Rattle.std.proofs.lemmas.List.{length-set}
use Rattle.std.proofs.lemmas.Nat.{or_lt}
use Rattle.abs_state.proofs.BitLemmas.{bit_set, set_below}
use Rattle.abs_state.specs.Words.{bits_long}
use Rattle.abs_state.proofs.stack_bytes.StackBytes.add_one.Goals as goal

pub invariant_of-self : goal.invariant_of-self
invariant_of-self c = (length-set _ _ _ ∙ c.self.invariant.0, set_below _ _ _ _ c.self.invariant.1 (or_lt 64 _ _ (c.self.invariant.1 _) (omega arith)))

pub returns-clause-added : goal.returns-clause-added
returns-clause-added c = bit_set c.self.inside.words c.args.byte c.self.invariant.0 c.requires ∙ ap (λ l. set l c.args.byte true) c.self.view_is

pub returns-clause-long : goal.returns-clause-long
returns-clause-long c = sym (ap length c.self.view_is) ∙ bits_long c.self.inside.words
