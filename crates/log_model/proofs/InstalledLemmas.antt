-- One more write set.
use Rattle.std.proofs.Common.{◌≡◌, ℕ, ◌≤◌, ◌<◌, true, false, List, [], ◌∷◌, ◌++◌, nat_le, cond, refl, ap, ◌∙◌, arith}
use Rattle.std.specs.List.{fold}
use Rattle.std.proofs.lemmas.Bool.Decides.{nat_tests}
use Rattle.schema.specs.Rows.{Rows, after_writes}
use Rattle.log_model.specs.InstalledWrites.{InstalledWrites, with_installed, map_after}

fold_one_more : {X Y : Type 0} (f : Y → X → Y) (y : Y) (xs : List X) (x : X) → fold f y (xs ++ x ∷ []) ≡ f (fold f y xs) x
fold_one_more f y [] x = refl
fold_one_more f y (z ∷ xs) x = fold_one_more f (f y z) xs x

pub laid_on : (rows : Rows) (installed : List InstalledWrites) (next : InstalledWrites) (position : ℕ) → next.position ≤ position → map_after rows (installed ++ next ∷ []) position ≡ after_writes next.writes (map_after rows installed position)
unfolding map_after
laid_on rows installed next position le =
    let t : nat_le next.position position ≡ true = grind (arith, nat_tests) in
    fold_one_more (with_installed position) rows installed next
    ∙ ap (λ b. cond b (after_writes next.writes (fold (with_installed position) rows installed)) (fold (with_installed position) rows installed)) t

pub left_out : (rows : Rows) (installed : List InstalledWrites) (next : InstalledWrites) (position : ℕ) → position < next.position → map_after rows (installed ++ next ∷ []) position ≡ map_after rows installed position
unfolding map_after
left_out rows installed next position lt =
    let f : nat_le next.position position ≡ false = grind (arith, nat_tests) in
    fold_one_more (with_installed position) rows installed next
    ∙ ap (λ b. cond b (after_writes next.writes (fold (with_installed position) rows installed)) (fold (with_installed position) rows installed)) f

pub none_installed : (rows : Rows) (position : ℕ) → map_after rows [] position ≡ rows
unfolding map_after
none_installed rows position = refl
