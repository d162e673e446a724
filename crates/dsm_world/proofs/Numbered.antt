-- What is numbered from 1, through a map.
use Rattle.std.proofs.Common.{◌≡◌, ◌⊎◌, inl, inr, ℕ, zero, suc, ◌+◌, ◌<◌, ◌≤◌, List, [], ◌∷◌, ◌++◌, length, map, slice_get, slice_set, Some, None, option_map, refl, sym, ap, arith}
use Rattle.std.specs.Prelude.{Option}
use Rattle.dsm_model.specs.World.{flatten, numbered, with_numbered}

pub get_map : {X Y : Type 0} (f : X → Y) (xs : List X) (k : ℕ) → slice_get (map f xs) k ≡ option_map f (slice_get xs k)
get_map f [] k = refl
get_map f (x ∷ xs) zero = refl
get_map f (x ∷ xs) (suc k) = get_map f xs k

pub set_map : {X Y : Type 0} (f : X → Y) (xs : List X) (k : ℕ) (x : X) → map f (slice_set xs k x) ≡ slice_set (map f xs) k (f x)
set_map f [] k x = refl
set_map f (y ∷ xs) zero x = refl
set_map f (y ∷ xs) (suc k) x = ap (λ ys. f y ∷ ys) (set_map f xs k x)

pub set_same : {X : Type 0} (xs : List X) (k : ℕ) (x : X) → slice_get xs k ≡ Some x → slice_set xs k x ≡ xs
set_same [] k x e = refl
set_same (y ∷ xs) zero x e = ap (λ z. z ∷ xs) (some_is x y (sym e))
  where
    some_is : {X : Type 0} (a b : X) → Some a ≡ Some b → a ≡ b
    some_is a b e = cc
set_same (y ∷ xs) (suc k) x e = ap (λ ys. y ∷ ys) (set_same xs k x e)

pub set_twice : {X : Type 0} (xs : List X) (k : ℕ) (x y : X) → slice_set (slice_set xs k x) k y ≡ slice_set xs k y
set_twice [] k x y = refl
set_twice (z ∷ xs) zero x y = refl
set_twice (z ∷ xs) (suc k) x y = ap (λ ys. z ∷ ys) (set_twice xs k x y)

pub get_set : {X : Type 0} (xs : List X) (k j : ℕ) (x : X) → slice_get (slice_set xs k x) j ≡ slice_get xs j ⊎ ((k ≡ j) × (slice_get (slice_set xs k x) j ≡ Some x))
get_set [] k j x = inl refl
get_set (y ∷ xs) zero zero x = inr (refl, refl)
get_set (y ∷ xs) zero (suc j) x = inl refl
get_set (y ∷ xs) (suc k) zero x = inl refl
get_set (y ∷ xs) (suc k) (suc j) x = elim (get_set xs k j x) [ inl e ↦ inl e | inr e ↦ inr (ap suc e.0, e.1) ]

pub get_snoc : {X : Type 0} (xs : List X) (x : X) (j : ℕ) (y : X) → slice_get (xs ++ x ∷ []) j ≡ Some y → (slice_get xs j ≡ Some y) ⊎ (x ≡ y)
get_snoc [] x zero y e = inr cc
get_snoc [] x (suc j) y e = absurd cc
get_snoc (z ∷ xs) x zero y e = inl e
get_snoc (z ∷ xs) x (suc j) y e = get_snoc xs x j y e

pub get_within : {X : Type 0} (xs : List X) (k : ℕ) → k < length xs → (x : X) × (slice_get xs k ≡ Some x)
get_within [] k lt = absurd (omega arith)
get_within (x ∷ xs) zero lt = (x, refl)
get_within (x ∷ xs) (suc k) lt = get_within xs k (omega arith)

pub get_lt : {X : Type 0} (xs : List X) (k : ℕ) (x : X) → slice_get xs k ≡ Some x → k < length xs
get_lt [] k x e = absurd cc
get_lt (y ∷ xs) zero x e = omega arith
get_lt (y ∷ xs) (suc k) x e = let lt = get_lt xs k x e in omega arith

pub get_beyond : {X : Type 0} (xs : List X) (k : ℕ) → length xs ≤ k → slice_get xs k ≡ None
get_beyond [] k le = refl
get_beyond (x ∷ xs) zero le = absurd (omega arith)
get_beyond (x ∷ xs) (suc k) le = get_beyond xs k (omega arith)

-- ---- from 1 on

pub numbered_map : {X Y : Type 0} (f : X → Y) (xs : List X) (n : ℕ) → numbered (map f xs) n ≡ option_map f (numbered xs n)
numbered_map f xs zero = refl
numbered_map f xs (suc k) = get_map f xs k

pub with_numbered_map : {X Y : Type 0} (f : X → Y) (xs : List X) (n : ℕ) (x : X) → map f (with_numbered xs n x) ≡ with_numbered (map f xs) n (f x)
with_numbered_map f xs zero x = refl
with_numbered_map f xs (suc k) x = set_map f xs k x

pub numbered_at : {X : Type 0} (xs : List X) (n k : ℕ) → n ≡ k + 1 → numbered xs n ≡ slice_get xs k
numbered_at xs n k e = let is : n ≡ suc k = omega arith in ap (numbered xs) is

pub with_numbered_at : {X : Type 0} (xs : List X) (n k : ℕ) (x : X) → n ≡ k + 1 → with_numbered xs n x ≡ slice_set xs k x
with_numbered_at xs n k x e = let is : n ≡ suc k = omega arith in ap (λ m. with_numbered xs m x) is

pub numbered_none : {X : Type 0} (xs : List X) (n : ℕ) → (n ≡ 0) ⊎ (length xs < n) → numbered xs n ≡ None
numbered_none xs zero e = refl
numbered_none xs (suc k) (inl e) = absurd (omega arith)
numbered_none xs (suc k) (inr lt) = get_beyond xs k (omega arith)

pub with_numbered_twice : {X : Type 0} (xs : List X) (n : ℕ) (x y : X) → with_numbered (with_numbered xs n x) n y ≡ with_numbered xs n y
with_numbered_twice xs zero x y = refl
with_numbered_twice xs (suc k) x y = set_twice xs k x y

set_there : {X : Type 0} (xs : List (Option X)) (k : ℕ) (x y : X) → flatten (slice_get xs k) ≡ Some x → flatten (slice_get (slice_set xs k (Some y)) k) ≡ Some y
set_there [] k x y e = absurd cc
set_there (z ∷ xs) zero x y e = refl
set_there (z ∷ xs) (suc k) x y e = set_there xs k x y e

-- where there is one, another may stand
pub numbered_set : {X : Type 0} (xs : List (Option X)) (n : ℕ) (x y : X) → flatten (numbered xs n) ≡ Some x → flatten (numbered (with_numbered xs n (Some y)) n) ≡ Some y
numbered_set xs zero x y e = absurd cc
numbered_set xs (suc k) x y e = set_there xs k x y e
