-- Bytes that are known.
use Rattle.std.proofs.Common.{◌≡◌, ℕ, suc, ◌+◌, ◌<◌, ◌≤◌, List, [], ◌∷◌, ◌++◌, length, drop, get_or, refl, sym, ap, ◌∙◌, arith}
use Rattle.std.specs.Prelude.{Option, Some, None}
use Rattle.std.specs.Option.{option_map}
use Rattle.std.proofs.Math.Seq.{drop-cons}
use Rattle.std.proofs.lemmas.List.{append_assoc, drop_all}
use Rattle.bpf_semantics.specs.Memory.{known_list}

joined : (front : List ℕ) (b : ℕ) (o : Option (List ℕ)) → option_map (λ bs. front ++ bs) (option_map (λ bs. b ∷ bs) o) ≡ option_map (λ bs. (front ++ b ∷ []) ++ bs) o
joined front b None = refl
joined front b (Some bs) = ap (λ l. Some l) (sym (append_assoc front (b ∷ []) bs))

-- a list from an index on
pub one_on : {X : Type 0} (xs : List X) (i : ℕ) (d : X) → i < length xs → drop i xs ≡ get_or xs i d ∷ drop (i + 1) xs
one_on xs i d h = let e : suc i ≡ i + 1 = omega arith in drop-cons xs i d h ∙ ap (λ k. get_or xs i d ∷ drop k xs) e

-- those from an index on, where the one there is known, and where it isn't
pub known_here : (xs : List (Option ℕ)) (i b : ℕ) (front next : List ℕ) → i < length xs → get_or xs i None ≡ Some b → next ≡ front ++ b ∷ [] → option_map (λ bs. next ++ bs) (known_list (drop (i + 1) xs)) ≡ option_map (λ bs. front ++ bs) (known_list (drop i xs))
unfolding known_list
known_here xs i b front next h is e =
    ap (λ l. option_map (λ bs. l ++ bs) (known_list (drop (i + 1) xs))) e
    ∙ sym (ap (λ l. option_map (λ bs. front ++ bs) (known_list l)) (one_on xs i None h ∙ ap (λ o. o ∷ drop (i + 1) xs) is) ∙ joined front b (known_list (drop (i + 1) xs)))

pub unknown_here : (xs : List (Option ℕ)) (i : ℕ) → i < length xs → get_or xs i None ≡ None → known_list (drop i xs) ≡ None
unfolding known_list
unknown_here xs i h is = ap known_list (one_on xs i None h ∙ ap (λ o. o ∷ drop (i + 1) xs) is)

pub known_end : (xs : List (Option ℕ)) (i : ℕ) → length xs ≤ i → known_list (drop i xs) ≡ Some []
unfolding known_list
known_end xs i h = ap known_list (drop_all i xs h)
