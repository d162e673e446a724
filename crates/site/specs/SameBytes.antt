-- Bytes that are expected, and what is left of them behind those that came. No public clause speaks of it.
use Rattle.std.proofs.Common.{◌≡◌, ◌≢◌, ℕ, List, [], ◌++◌, Option, Some, None, option_map, subst, sym, append_assoc}
use Rattle.std.proofs.lemmas.List.{append-nil}
use Rattle.site.specs.declared.same_bytes.Expected.{Expected}

abbrev pub left_of : Expected → Option (List ℕ)
left_of e = option_map (λ left. left.now) e.left

-- what is left of the whole behind these; none, where the whole doesn't begin with them
abbrev pub IsLeft : List ℕ → List ℕ → Option (List ℕ) → Type 0
IsLeft whole came (Some left) = whole ≡ came ++ left
IsLeft whole came None = (rest : List ℕ) → whole ≢ came ++ rest

abbrev pub HasSeen : Expected → Expected → List ℕ → Type 0
HasSeen old new piece =
    (whole came : List ℕ) → IsLeft whole came (left_of old) → IsLeft whole (came ++ piece) (left_of new)

pub seen_nothing : (a : Expected) → HasSeen a a []
seen_nothing a whole came is = subst (λ (t : List ℕ). IsLeft whole t (left_of a)) (sym (append-nil came)) is

pub seen_twice : (a b c : Expected) (front back : List ℕ) → HasSeen a b front → HasSeen b c back
    → HasSeen a c (front ++ back)
seen_twice a b c front back first then whole came is =
    subst (λ (t : List ℕ). IsLeft whole t (left_of c)) (append_assoc came front back)
    (then whole (came ++ front) (first whole came is))
