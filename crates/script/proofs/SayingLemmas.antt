-- The fields of calls.
use Rattle.std.proofs.Common.{◌≡◌, ℕ, List, [], ◌∷◌, length, Err, refl, arith}
use Rattle.script.specs.declared.fault.LineFault.TheVariants.{FieldCount}
use Rattle.script.specs.declared.word.ActionWord.TheVariants as act
use Rattle.script.specs.Script.{action_said}

-- a call has three fields or five
pub begin_of_four : (fields : List (List ℕ)) → length fields ≡ 4 → action_said act.Begin fields ≡ Err FieldCount
unfolding action_said
begin_of_four [] n = absurd cc
begin_of_four (a ∷ []) n = absurd cc
begin_of_four (a ∷ b ∷ []) n = absurd cc
begin_of_four (a ∷ b ∷ c ∷ []) n = absurd cc
begin_of_four (a ∷ b ∷ c ∷ d ∷ []) n = refl
begin_of_four (a ∷ b ∷ c ∷ d ∷ e ∷ more) n = absurd (omega arith)
