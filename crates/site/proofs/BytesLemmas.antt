-- Whether bytes that came by pieces are those that were expected.
use Rattle.std.proofs.Common.{◌≡◌, ◌≢◌, ℕ, suc, Bool, true, false, List, [], ◌∷◌, ◌++◌, length, nat_eq, Option, Some, None, option_map, refl, sym, ap, ◌∙◌, append_assoc, arith}
use Rattle.std.proofs.lemmas.Bool.Decides.{nat_tests}
use Rattle.std.proofs.lemmas.List.{append-nil}
use Rattle.std.specs.Str.{bytes_eq}
use Rattle.std.proofs.lemmas.Slice.Eq.{bytes_eq-Decides}
use Rattle.std.specs.Borrow.{Bor}
use Rattle.std.specs.Option.{IfSome, MatchOption}
use Rattle.site.specs.SameBytes.{IsLeft}

abbrev pub is_left_empty : Option (List ℕ) → Bool
is_left_empty (Some left) = nat_eq (length left) 0
is_left_empty None = false

equal : (a b : List ℕ) → a ≡ b → bytes_eq a b ≡ true
equal a b e = (bytes_eq-Decides a b).1 e

unequal : (a b : List ℕ) → a ≢ b → bytes_eq a b ≡ false
unequal a b apart = elim (bytes_eq a b) as (λ t. bytes_eq a b ≡ t → t ≡ false) [ true ↦ λ e. absurd (apart ((bytes_eq-Decides a b).0 e)) | false ↦ λ _. refl ] refl

longer : (came : List ℕ) (x : ℕ) (left : List ℕ) → came ++ x ∷ left ≢ came
longer [] x left e = absurd cc
longer (y ∷ came) x left e = longer came x left (cons_tail _ _ _ _ e)
  where
    cons_tail : (a b : ℕ) (xs ys : List ℕ) → a ∷ xs ≡ b ∷ ys → xs ≡ ys
    cons_tail a b xs ys e = cc

some_left : (n : ℕ) → nat_eq (suc n) 0 ≡ false
some_left n = grind (arith, nat_tests)

-- what is left at the end tells whether they are the same
pub are_same : (whole came : List ℕ) (left : Option (List ℕ)) → IsLeft whole came left → is_left_empty left ≡ bytes_eq whole came
are_same whole came None apart = sym (unequal whole came (λ e. apart [] (e ∙ sym (append-nil came))))
are_same whole came (Some []) e = sym (equal whole came (e ∙ append-nil came))
are_same whole came (Some (x ∷ left)) e = some_left (length left) ∙ sym (unequal whole came (λ same. longer came x left (sym e ∙ same)))

-- a piece more came
pub piece_came : (whole came piece left rest : List ℕ) → whole ≡ came ++ left → left ≡ piece ++ rest → whole ≡ (came ++ piece) ++ rest
piece_came whole came piece left rest e f = e ∙ ap (λ (xs : List ℕ). came ++ xs) f ∙ sym (append_assoc came piece rest)

same_rest : (came xs ys : List ℕ) → came ++ xs ≡ came ++ ys → xs ≡ ys
same_rest [] xs ys e = e
same_rest (c ∷ came) xs ys e = same_rest came xs ys (cons_tail _ _ _ _ e)
  where
    cons_tail : (a b : ℕ) (xs ys : List ℕ) → a ∷ xs ≡ b ∷ ys → xs ≡ ys
    cons_tail a b xs ys e = cc

pub other_came : (whole came piece left : List ℕ) → whole ≡ came ++ left → ((rest : List ℕ) → left ≢ piece ++ rest) → (rest : List ℕ) → whole ≢ (came ++ piece) ++ rest
other_came whole came piece left e apart rest f = apart rest (same_rest came left (piece ++ rest) (sym e ∙ f ∙ append_assoc came piece rest))

pub others_came : (whole came piece : List ℕ) → ((rest : List ℕ) → whole ≢ came ++ rest) → (rest : List ℕ) → whole ≢ (came ++ piece) ++ rest
others_came whole came piece apart rest f = apart (piece ++ rest) (f ∙ append_assoc came piece rest)

abbrev Behind : List ℕ → List ℕ → Option (Bor (List ℕ)) → Type 0
Behind bytes piece r = MatchOption r ((rest : List ℕ) → bytes ≢ piece ++ rest) (λ x. bytes ≡ piece ++ x.now)

pub behind_some : (bytes piece : List ℕ) (r : Option (Bor (List ℕ))) → Behind bytes piece r → IfSome r (λ rest. bytes ≡ piece ++ rest.now)
behind_some bytes piece None h = tt
behind_some bytes piece (Some x) h = h

pub behind_none : (bytes piece : List ℕ) (r : Option (Bor (List ℕ))) → Behind bytes piece r → r ≡ None → (rest : List ℕ) → bytes ≢ piece ++ rest
behind_none bytes piece None h e = h
behind_none bytes piece (Some x) h e = absurd cc

pub piece_taken : (whole came piece left : List ℕ) (r : Option (Bor (List ℕ))) → whole ≡ came ++ left → IfSome r (λ rest. left ≡ piece ++ rest.now) → (r ≡ None → (rest : List ℕ) → left ≢ piece ++ rest) → IsLeft whole (came ++ piece) (option_map (λ (x : Bor (List ℕ)). x.now) r)
piece_taken whole came piece left None e some none = other_came whole came piece left e (none refl)
piece_taken whole came piece left (Some x) e some none = piece_came whole came piece left x.now e some
