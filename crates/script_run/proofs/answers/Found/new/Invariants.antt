use Rattle.std.proofs.Common.{◌≡◌, All, None, vec_len}
use Rattle.script_run.proofs.answers.Found.new.Given as goal

abbrev pub invariant-loop-place : goal.invariant-loop-place
invariant-loop-place g l = (vec_len l.answers ≡ l.place) × All (λ o. o ≡ None) l.answers.items
