-- The text of lines that stand behind each other, and their number.
use Rattle.std.proofs.Common.{◌≡◌, ℕ, ◌+◌, List, ◌++◌, ◌∙◌, length, ap, sym, arith}
use Rattle.std.specs.List.{concat}
use Rattle.std.proofs.lemmas.List.{length-append}
use Rattle.std.proofs.lemmas.List.Folds.{concat-append}

pub three_texts : (xs ys zs : List (List ℕ)) → concat xs ++ (concat ys ++ concat zs) ≡ concat (xs ++ (ys ++ zs))
three_texts xs ys zs = sym (concat-append xs (ys ++ zs) ∙ ap (λ (t : List ℕ). concat xs ++ t) (concat-append ys zs))

pub three_counts : (xs ys zs : List (List ℕ)) → length xs + (length ys + length zs) ≡ length (xs ++ (ys ++ zs))
three_counts xs ys zs =
    let all = length-append xs (ys ++ zs) in
    let behind = length-append ys zs in
    omega (arith, all, behind)
