-- Lengths, and rows put one after another.
use Rattle.std.proofs.Common.{◌≡◌, ◌≢◌, ℕ, zero, suc, ◌+◌, ◌<◌, List, [], ◌∷◌, ◌++◌, length, take, get_or, fold, nat_eq, true, false, refl, sym, ap, ◌∙◌, arith}
use Rattle.std.specs.FinMap.{empty, insert}
use Rattle.std.proofs.lemmas.Bool.Decides.{nat_tests}
use Rattle.schema.specs.Rows.{Rows, Key}
use Rattle.plain_runner.specs.Listed.{rows_of}

-- each of them, whatever stands beyond the end
pub each_byte : (xs : List ℕ) → ((i : ℕ) → get_or xs i 0 < 256) → (k d : ℕ) → k < length xs → get_or xs k d < 256
each_byte [] h k d lt = absurd (omega arith)
each_byte (x ∷ xs) h zero d lt = h zero
each_byte (x ∷ xs) h (suc k) d lt = each_byte xs (λ i. h (suc i)) k d (omega arith)

one_more : {X Y : Type 0} (f : Y → X → Y) (y : Y) (d : X) (xs : List X) (i : ℕ) → i < length xs → fold f y (take (suc i) xs) ≡ f (fold f y (take i xs)) (get_or xs i d)
one_more f y d [] i lt = absurd (omega arith)
one_more f y d (x ∷ xs) zero lt = refl
one_more f y d (x ∷ xs) (suc i) lt = one_more f (f y x) d xs i (omega arith)

-- one more row
pub next_row : (d : Key × List ℕ) (rows : List (Key × List ℕ)) (i : ℕ) → i < length rows → insert (rows_of (take i rows)) (get_or rows i d).0 (get_or rows i d).1 ≡ rows_of (take (i + 1) rows)
next_row d rows i lt =
    let more : suc i ≡ i + 1 = omega arith in
    sym (ap (λ n. rows_of (take n rows)) (sym more) ∙ one_more (λ map row. insert map row.0 row.1) empty d rows i lt)
