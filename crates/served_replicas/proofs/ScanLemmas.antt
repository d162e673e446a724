-- Rows that are copied one after another.
use Rattle.std.proofs.Common.{◌≡◌, ◌⊎◌, inl, inr, ◌≤◌, ◌+◌, ℕ, zero, suc, List, [], ◌∷◌, ◌++◌, length, take, refl, sym, ap, ◌∙◌, arith, append_assoc, length-append}
use Rattle.std.proofs.lemmas.List.{append-nil}

module _ {X : Type 0} where
  -- one more is copied, and one less is left
  pub copied : (done rest start left pushed : List X) (x y : X) → pushed ≡ done ++ x ∷ [] → x ≡ y → left ≡ y ∷ rest → done ++ left ≡ start → pushed ++ rest ≡ start
  copied done rest start left pushed x y push same is so_far =
      ap (λ (xs : List X). xs ++ rest) push ∙ append_assoc done (x ∷ []) rest ∙ ap (λ (z : X). done ++ z ∷ rest) same
      ∙ ap (λ (xs : List X). done ++ xs) (sym is) ∙ so_far

  pub one_longer : (done pushed : List X) (x : X) (most : ℕ) → pushed ≡ done ++ x ∷ [] → length done + 1 ≤ most → length pushed ≤ most
  one_longer done pushed x most push fewer = let n = ap (λ (xs : List X). length xs) push ∙ length-append done (x ∷ []) in omega (arith, n, fewer)

  take_short : (most : ℕ) (xs : List X) → length xs ≤ most → take most xs ≡ xs
  take_short zero [] few = refl
  take_short (suc most) [] few = refl
  take_short zero (x ∷ xs) few = absurd (omega (arith, few))
  take_short (suc most) (x ∷ xs) few = ap (λ (ys : List X). x ∷ ys) (take_short most xs (omega (arith, few)))

  take_first : (xs ys : List X) → take (length xs) (xs ++ ys) ≡ xs
  take_first [] ys = take_none ys
    where
      take_none : (ys : List X) → take zero ys ≡ []
      take_none [] = refl
      take_none (y ∷ ys) = refl
  take_first (x ∷ xs) ys = ap (λ (zs : List X). x ∷ zs) (take_first xs ys)

  -- what was copied are the first of all, where none are left or as many were copied as were asked for
  pub copied_first : (done left all : List X) (most : ℕ) → done ++ left ≡ all → length done ≤ most → (left ≡ []) ⊎ (length done ≡ most) → done ≡ take most all
  copied_first done left all most split few (inl none) =
      let whole : done ≡ all = sym (append-nil done) ∙ ap (λ (xs : List X). done ++ xs) (sym none) ∙ split in
      whole ∙ sym (take_short most all (subst_length whole))
    where
      subst_length : done ≡ all → length all ≤ most
      subst_length same = let n = ap (λ (xs : List X). length xs) same in omega (arith, n, few)
  copied_first done left all most split few (inr full) =
      sym (take_first done left) ∙ ap (λ (xs : List X). take (length done) xs) split ∙ ap (λ (n : ℕ). take n all) full
