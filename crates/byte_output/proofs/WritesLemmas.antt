-- Texts that are written one after another.
use Rattle.std.proofs.Common.{◌≡◌, ℕ, List, ◌++◌, take, drop, Option, Some, None, sym, ap, ◌∙◌, append_assoc, take-append-drop}
use Rattle.std.specs.Io.KnownBytes.{Appends}
use Rattle.byte_output.specs.Writes.{AppendsBeginning}

pub Appends-then : (a b c : Option (List ℕ)) (xs ys : List ℕ) → Appends a b xs → Appends b c ys → Appends a c (xs ++ ys)
Appends-then None b c xs ys p q = tt
Appends-then (Some x) None c xs ys p q = absurd p
Appends-then (Some x) (Some y) None xs ys p q = absurd q
Appends-then (Some x) (Some y) (Some z) xs ys p q = q ∙ ap (λ (t : List ℕ). t ++ ys) p ∙ append_assoc x xs ys

-- what was written, and a beginning of what comes next, with more behind it
pub AppendsBeginning-then : (a b c : Option (List ℕ)) (front text rest : List ℕ) → Appends a b front → AppendsBeginning b c text → AppendsBeginning a c (front ++ (text ++ rest))
AppendsBeginning-then a b c front text rest p (xs, ys, split, q) = (
  front ++ xs,
  ys ++ rest,
  ap (λ (t : List ℕ). front ++ (t ++ rest)) split ∙ ap (λ (t : List ℕ). front ++ t) (append_assoc xs ys rest) ∙ sym (append_assoc front xs (ys ++ rest)),
  Appends-then a b c front xs p q,
)

-- one more write took the front of what was left
pub takes_more : (a b c : Option (List ℕ)) (text rest left : List ℕ) (n : ℕ) → (front : List ℕ) × (text ≡ front ++ rest) × Appends a b front → Appends b c (take n rest) → left ≡ drop n rest
    → (front : List ℕ) × (text ≡ front ++ left) × Appends a c front
takes_more a b c text rest left n (front, split, so_far) took behind = (
  front ++ take n rest,
  split ∙ ap (λ (t : List ℕ). front ++ t) (sym (take-append-drop n rest)) ∙ sym (append_assoc front (take n rest) (drop n rest)) ∙ ap (λ (t : List ℕ). (front ++ take n rest) ++ t) (sym behind),
  Appends-then a b c front (take n rest) so_far took,
)

-- a beginning of a text is one of the text with more behind it
pub AppendsBeginning-more : (a b : Option (List ℕ)) (text more : List ℕ) → AppendsBeginning a b text → AppendsBeginning a b (text ++ more)
AppendsBeginning-more a b text more (front, rest, split, p) = (front, rest ++ more, ap (λ (t : List ℕ). t ++ more) split ∙ append_assoc front rest more, p)
