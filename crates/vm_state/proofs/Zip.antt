-- Two lists that are related index by index.
use Rattle.std.proofs.Common.{ℕ, zero, suc, List, [], ◌∷◌, ◌++◌, get_or, take, drop}
use Rattle.std.proofs.Math.ListN.{set}
use Rattle.std.specs.List.{AllZip}

pub zip_at : {A B : Type 0} (R : A → B → Type 0) (xs : List A) (ys : List B) (i : ℕ) (d : A) (e : B) → R d e → AllZip R xs ys → R (get_or xs i d) (get_or ys i e)
zip_at R [] [] i d e r h = r
zip_at R [] (y ∷ ys) i d e r h = absurd h
zip_at R (x ∷ xs) [] i d e r h = absurd h
zip_at R (x ∷ xs) (y ∷ ys) zero d e r h = h.0
zip_at R (x ∷ xs) (y ∷ ys) (suc i) d e r h = zip_at R xs ys i d e r h.1

pub zip_set : {A B : Type 0} (R : A → B → Type 0) (xs : List A) (ys : List B) (i : ℕ) (x : A) (y : B) → R x y → AllZip R xs ys → AllZip R (set xs i x) (set ys i y)
zip_set R [] [] i x y r h = tt
zip_set R [] (b ∷ ys) i x y r h = absurd h
zip_set R (a ∷ xs) [] i x y r h = absurd h
zip_set R (a ∷ xs) (b ∷ ys) zero x y r h = (r, h.1)
zip_set R (a ∷ xs) (b ∷ ys) (suc i) x y r h = (h.0, zip_set R xs ys i x y r h.1)

pub zip_take : {A B : Type 0} (R : A → B → Type 0) (n : ℕ) (xs : List A) (ys : List B) → AllZip R xs ys → AllZip R (take n xs) (take n ys)
zip_take R zero xs ys h = tt
zip_take R (suc n) [] [] h = tt
zip_take R (suc n) [] (y ∷ ys) h = absurd h
zip_take R (suc n) (x ∷ xs) [] h = absurd h
zip_take R (suc n) (x ∷ xs) (y ∷ ys) h = (h.0, zip_take R n xs ys h.1)

pub zip_drop : {A B : Type 0} (R : A → B → Type 0) (n : ℕ) (xs : List A) (ys : List B) → AllZip R xs ys → AllZip R (drop n xs) (drop n ys)
zip_drop R zero xs ys h = h
zip_drop R (suc n) [] [] h = tt
zip_drop R (suc n) [] (y ∷ ys) h = absurd h
zip_drop R (suc n) (x ∷ xs) [] h = absurd h
zip_drop R (suc n) (x ∷ xs) (y ∷ ys) h = zip_drop R n xs ys h.1

pub zip_append : {A B : Type 0} (R : A → B → Type 0) (xs : List A) (ys : List B) (us : List A) (vs : List B) → AllZip R xs ys → AllZip R us vs → AllZip R (xs ++ us) (ys ++ vs)
zip_append R [] [] us vs h k = k
zip_append R [] (y ∷ ys) us vs h k = absurd h
zip_append R (x ∷ xs) [] us vs h k = absurd h
zip_append R (x ∷ xs) (y ∷ ys) us vs h k = (h.0, zip_append R xs ys us vs h.1 k)
