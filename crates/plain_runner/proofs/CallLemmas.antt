-- The registers after a call.
use Rattle.std.proofs.Common.{◌≡◌, ℕ, ◌%◌, ◌≤◌, List, [], ◌∷◌, length, drop, get_or, refl, sym, ap, ◌∙◌, arith}
use Rattle.std.proofs.lemmas.List.{drop_all}
use Rattle.plain_runner.proofs.MemoryLemmas.{one_on}

-- the last of eleven
pub last_five : {X : Type 0} (xs : List X) (d : X) → length xs ≡ 11 → drop 6 xs ≡ get_or xs 6 d ∷ get_or xs 7 d ∷ get_or xs 8 d ∷ get_or xs 9 d ∷ get_or xs 10 d ∷ []
last_five xs d e =
    one_on xs 6 d (omega arith) ∙ ap (λ l. get_or xs 6 d ∷ l)
    (one_on xs 7 d (omega arith) ∙ ap (λ l. get_or xs 7 d ∷ l)
    (one_on xs 8 d (omega arith) ∙ ap (λ l. get_or xs 8 d ∷ l)
    (one_on xs 9 d (omega arith) ∙ ap (λ l. get_or xs 9 d ∷ l)
    (one_on xs 10 d (omega arith) ∙ ap (λ l. get_or xs 10 d ∷ l) (drop_all 11 xs (omega arith))))))
