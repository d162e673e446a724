-- Texts that are given one behind the other, and bytes in hex.
use Rattle.std.proofs.Common.{◌≡◌, ◌∙◌, ℕ, ◌+◌, ◌<◌, ◌/◌, ◌%◌, List, [], ◌∷◌, ◌++◌, take, drop, length, get_or, slice_index, Option, Some, None, Result, Ok, Err, refl, sym, ap, subst, append_assoc, take-append-drop}
use Rattle.std.proofs.lemmas.List.{append-nil, take_more}
use Rattle.std.specs.Prelude.{IsOk, OnOk}
use Rattle.std.specs.Io.KnownBytes.{Appends}
use Rattle.hex.specs.Hex.{encode_with, encode_lower, lower_digits}
use Rattle.byte_output.specs.declared.paged.PagedOutput.{PagedOutput}
use Rattle.byte_output.specs.Writes.{AppendsBeginning}
use Rattle.byte_output.specs.Pending.{output_of, pending_of, Passes, Takes}
use Rattle.byte_output.proofs.WritesLemmas.{AppendsBeginning-more}
use Rattle.byte_output.proofs.PendingLemmas.{Passes-then, AppendsBeginning-given}

-- ---- bytes in hex

pub encode_append : (t xs ys : List ℕ) → encode_with t (xs ++ ys) ≡ encode_with t xs ++ encode_with t ys
unfolding encode_with
encode_append t [] ys = refl
encode_append t (x ∷ xs) ys = ap (λ (l : List ℕ). slice_index t (x / 16) ∷ slice_index t (x % 16) ∷ l) (encode_append t xs ys)

-- one byte more
pub encode_more : (xs : List ℕ) (i : ℕ) → i < length xs
    → encode_lower (take (i + 1) xs) ≡ encode_lower (take i xs) ++ encode_lower (get_or xs i 0 ∷ [])
encode_more xs i lt = ap encode_lower (take_more xs i 0 lt) ∙ encode_append lower_digits (take i xs) (get_or xs i 0 ∷ [])

-- the bytes so far, one more, and the others
pub encode_split : (xs : List ℕ) (i : ℕ) → i < length xs
    → encode_lower xs ≡ encode_lower (take i xs) ++ (encode_lower (get_or xs i 0 ∷ []) ++ encode_lower (drop (i + 1) xs))
encode_split xs i lt =
    ap encode_lower (sym (take-append-drop (i + 1) xs)) ∙ encode_append lower_digits (take (i + 1) xs) (drop (i + 1) xs)
    ∙ ap (λ (l : List ℕ). l ++ encode_lower (drop (i + 1) xs)) (encode_more xs i lt)
    ∙ append_assoc (encode_lower (take i xs)) (encode_lower (get_or xs i 0 ∷ [])) (encode_lower (drop (i + 1) xs))

-- what an answer without a fault says
pub told_ok : {T E P : Type 0} (result : Result T E) → IsOk result → OnOk result P → P
told_ok (Ok x) ok told = told
told_ok (Err e) ok told = absurd (let apart = ok in cc)

-- ---- one text behind the other

pub nothing_appended : (o : Option (List ℕ)) → Appends o o []
nothing_appended None = tt
nothing_appended (Some x) = sym (append-nil x)

pub nothing_given : {W : Type 0} (contents : W → Option (List ℕ)) (a : PagedOutput W) → Passes contents a a []
nothing_given contents a = ([], append-nil (pending_of a), nothing_appended (contents (output_of a).now))

-- what is given next, behind what was given
pub Takes-then : {W T E : Type 0} (contents : W → Option (List ℕ)) (a b c : PagedOutput W) (front text : List ℕ) (result : Result T E)
    → Passes contents a b front → Takes contents b c result text → Takes contents a c result (front ++ text)
Takes-then contents a b c front text (Ok x) p q = Passes-then contents a b c front text p q
Takes-then contents a b c front text (Err e) p q =
    subst (λ (t : List ℕ). AppendsBeginning (contents (output_of a).now) (contents (output_of c).now) (pending_of a ++ (front ++ t))) (append-nil text)
    (AppendsBeginning-given contents a b (contents (output_of c).now) front text [] p q)

-- of three texts the first broke off, or the second behind it
pub first_breaks : (a b : Option (List ℕ)) (pending first second third : List ℕ)
    → AppendsBeginning a b (pending ++ first) → AppendsBeginning a b (pending ++ ((first ++ second) ++ third))
first_breaks a b pending first second third p =
    subst (AppendsBeginning a b) (append_assoc pending first (second ++ third) ∙ ap (λ (t : List ℕ). pending ++ t) (sym (append_assoc first second third)))
    (AppendsBeginning-more a b (pending ++ first) (second ++ third) p)

pub second_breaks : {W : Type 0} (contents : W → Option (List ℕ)) (a b : PagedOutput W) (c : Option (List ℕ)) (first second third : List ℕ)
    → Passes contents a b first → AppendsBeginning (contents (output_of b).now) c (pending_of b ++ second)
    → AppendsBeginning (contents (output_of a).now) c (pending_of a ++ ((first ++ second) ++ third))
second_breaks contents a b c first second third p q =
    subst (λ (t : List ℕ). AppendsBeginning (contents (output_of a).now) c (pending_of a ++ t)) (sym (append_assoc first second third))
    (AppendsBeginning-given contents a b c first second third p q)
