-- Two lists, element by element.
use Rattle.std.proofs.Common.{◌≡◌, ℕ, zero, suc, true, replicate, ◌+◌, ◌<◌, ◌≤◌, List, [], ◌∷◌, ◌++◌, length, get_or, take, drop, refl, sym, ◌∙◌, ap, arith}
use Rattle.std.proofs.Math.ListN.{set}
use Rattle.std.proofs.lemmas.List.{drop_more, take_more_set, drop-set-lt, append_assoc, take_all, drop_all, append-nil}
use Rattle.abs_state.specs.State.{zip_with}

-- one more element is done
pub zip_step : {A : Type 0} (f : A → A → A) (xs ys : List A) (i : ℕ) (x y : A) → i < length xs → length xs ≡ length ys → x ≡ get_or xs i x → y ≡ get_or ys i y → take (i + 1) (set xs i (f x y)) ++ zip_with f (drop (i + 1) (set xs i (f x y))) (drop (i + 1) ys) ≡ take i xs ++ zip_with f (drop i xs) (drop i ys)
unfolding zip_with
zip_step f xs ys i x y h len is_x is_y =
    let below : i < length ys = omega arith in
    let e : drop i xs ≡ x ∷ drop (i + 1) xs = drop_more xs i x h ∙ ap (λ z. z ∷ drop (i + 1) xs) (sym is_x) in
    let d : drop i ys ≡ y ∷ drop (i + 1) ys = drop_more ys i y below ∙ ap (λ z. z ∷ drop (i + 1) ys) (sym is_y) in
    let more = take_more_set xs i (f x y) h in
    let past : drop (i + 1) (set xs i (f x y)) ≡ drop (i + 1) xs = drop-set-lt (i + 1) xs i (f x y) (omega arith) in
    rw (more, past, e, d) (append_assoc (take i xs) (f x y ∷ []) (zip_with f (drop (i + 1) xs) (drop (i + 1) ys)))

-- all are done
pub zip_done : {A : Type 0} (f : A → A → A) (xs ys : List A) (i : ℕ) → length xs ≤ i → take i xs ++ zip_with f (drop i xs) ys ≡ xs
unfolding zip_with
zip_done f xs ys i h = rw (take_all i xs h, drop_all i xs h) (append-nil xs)

take_same : {A : Type 0} (a : A) (n k : ℕ) → n ≤ k → take n (replicate k a) ≡ replicate n a
take_same a zero k h = refl
take_same a (suc n) zero h = absurd (omega arith)
take_same a (suc n) (suc k) h = ap (λ l. a ∷ l) (take_same a n k (omega arith))

pub trues_taken : (n : ℕ) → n ≤ 512 → take n (replicate 512 true) ≡ replicate n true
trues_taken n h = take_same true n 512 h
