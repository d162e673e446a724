-- Lists side by side, of which one is at its end.
use Rattle.std.proofs.Common.{◌≡◌, List, [], ◌∷◌, length, refl}
use Rattle.std.specs.List.{zip}

pub none_first : {X Y : Type 0} (xs : List X) (ys : List Y) → length xs ≡ 0 → zip xs ys ≡ []
none_first [] ys e = refl
none_first (x ∷ xs) ys e = absurd cc

pub none_second : {X Y : Type 0} (xs : List X) (ys : List Y) → length ys ≡ 0 → zip xs ys ≡ []
none_second [] ys e = refl
none_second (x ∷ xs) [] e = refl
none_second (x ∷ xs) (y ∷ ys) e = absurd cc
