-- A list of which one after another is changed.
use Rattle.std.proofs.Common.{◌≡◌, ℕ, zero, suc, ◌≤◌, ◌<◌, List, [], ◌∷◌, length, set, get_or, refl, ap, subst, arith}
use Rattle.row_chain.specs.Slots.{AreChanged}

pub none_changed : {X : Type 0} (R : X → X → Type 0) (xs : List X) → AreChanged R 0 xs xs
none_changed R [] = tt
none_changed R (x ∷ xs) = (refl, none_changed R xs)

pub length_changed : {X : Type 0} (R : X → X → Type 0) (n : ℕ) (xs ys : List X) → AreChanged R n xs ys → length ys ≡ length xs
length_changed R zero [] [] h = refl
length_changed R (suc n) [] [] h = refl
length_changed R zero [] (y ∷ ys) h = absurd h
length_changed R (suc n) [] (y ∷ ys) h = absurd h
length_changed R zero (x ∷ xs) [] h = absurd h
length_changed R (suc n) (x ∷ xs) [] h = absurd h
length_changed R zero (x ∷ xs) (y ∷ ys) h = ap suc (length_changed R zero xs ys h.1)
length_changed R (suc n) (x ∷ xs) (y ∷ ys) h = ap suc (length_changed R n xs ys h.1)

pub one_changed : {X : Type 0} (R : X → X → Type 0) (n : ℕ) (xs ys : List X) (y d : X) → AreChanged R n xs ys → n < length ys → R (get_or ys n d) y → AreChanged R (suc n) xs (set ys n y)
one_changed R zero [] [] y d h lt is = absurd (omega arith)
one_changed R (suc n) [] [] y d h lt is = absurd (omega arith)
one_changed R zero [] (z ∷ ys) y d h lt is = absurd h
one_changed R (suc n) [] (z ∷ ys) y d h lt is = absurd h
one_changed R zero (x ∷ xs) [] y d h lt is = absurd h
one_changed R (suc n) (x ∷ xs) [] y d h lt is = absurd h
one_changed R zero (x ∷ xs) (z ∷ ys) y d h lt is = (subst (λ v. R v y) h.0 is, h.1)
one_changed R (suc n) (x ∷ xs) (z ∷ ys) y d h lt is = (h.0, one_changed R n xs ys y d h.1 (omega arith) is)

pub full_changed : {X : Type 0} (R : X → X → Type 0) (n : ℕ) (xs ys : List X) → AreChanged R n xs ys → length xs ≤ n → AreChanged R (length xs) xs ys
full_changed R zero [] [] h le = tt
full_changed R (suc n) [] [] h le = tt
full_changed R zero [] (y ∷ ys) h le = absurd h
full_changed R (suc n) [] (y ∷ ys) h le = absurd h
full_changed R zero (x ∷ xs) [] h le = absurd h
full_changed R (suc n) (x ∷ xs) [] h le = absurd h
full_changed R zero (x ∷ xs) (y ∷ ys) h le = absurd (omega arith)
full_changed R (suc n) (x ∷ xs) (y ∷ ys) h le = (h.0, full_changed R n xs ys h.1 (omega arith))
