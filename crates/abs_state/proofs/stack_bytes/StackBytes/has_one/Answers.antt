use Rattle.std.proofs.Common.{◌∙◌, ap, sym, ℕ, nat_eq, get_or, length}
use Rattle.std.specs.Prelude.{false}
use Rattle.std.proofs.lemmas.Nat.Bits.{shr_and_one}
use Rattle.abs_state.specs.Words.{bits_at, bits_long}
use Rattle.abs_state.proofs.stack_bytes.StackBytes.has_one.Goals as goal

pub returns-clause-value : goal.returns-clause-value
returns-clause-value c = ap (λ (x : ℕ). nat_eq x 1) (shr_and_one _ _) ∙ sym (bits_at c.self.inside.words c.args.byte false c.requires) ∙ ap (λ l. get_or l c.args.byte false) c.self.view_is

pub returns-clause-long : goal.returns-clause-long
returns-clause-long c = sym (ap length c.self.view_is) ∙ bits_long c.self.inside.words
