-- The first line of some bytes.
use Rattle.std.proofs.Common.{◌≡◌, ◌≢◌, ℕ, suc, ◌+◌, ◌<◌, ◌≤◌, nat_le, Bool, true, false, List, [], ◌∷◌, ◌++◌, Option, Some, None, IfSome, Result, Ok, Err, length, take, drop, get_or, get_or-take, refl, sym, ap, subst, ◌∙◌, arith, cond, ne_eqb, take-take, take-append-drop, drop-cons, add-one, append_assoc, length-append}
use Rattle.std.proofs.lemmas.List.{append-nil}
use Rattle.std.proofs.lemmas.List.Elements.{All-head, All-tail, All-append}
use Rattle.std.proofs.lemmas.Bool.Decides.{nat_tests}
use Rattle.std.specs.Prelude.{◌&&◌, not}
use Rattle.std.specs.List.{list_all, onto_first}
use Rattle.std.specs.Io.{StartsWith}
use Rattle.std.specs.Io.KnownBytes.{Keeps}
use Rattle.std.specs.Io.BufRead.{DropsConsumable}
use Rattle.script.specs.declared.fault.LineFault.{LineFault}
use Rattle.script.specs.declared.fault.LineFault.TheVariants as fault
use Rattle.script.specs.Line.{said_by_fields, says}
use Rattle.script.specs.Text.{fields_of, is_printable, is_skipped, lines_of, max_line}
use Rattle.script.specs.Reading.{HasNoLf, IsNext, IsPiece}
use Rattle.script.specs.declared.input.Next.TheVariants as next
use Rattle.script.specs.declared.input.Piece.TheVariants as piece
use Rattle.std.proofs.lemmas.List.{length-take}

passes : (b : ℕ) (rest : List ℕ) → b ≢ 10 → lines_of (b ∷ rest) ≡ onto_first b (lines_of rest)
passes b rest ne = ap (λ (t : Bool). cond t ([] ∷ lines_of rest) (onto_first b (lines_of rest))) (ne_eqb b 10 ne)

pub lines_of-ended : (p rest : List ℕ) → HasNoLf p → lines_of (p ++ (10 ∷ rest)) ≡ p ∷ lines_of rest
lines_of-ended [] rest none = refl
lines_of-ended (b ∷ p) rest none =
    passes b (p ++ (10 ∷ rest)) (All-head (λ (x : ℕ). x ≢ 10) b p none) ∙ ap (onto_first b) (lines_of-ended p rest (All-tail (λ (x : ℕ). x ≢ 10) b p none))

pub lines_of-last : (p : List ℕ) → HasNoLf p → 0 < length p → lines_of p ≡ p ∷ []
lines_of-last [] none some = absurd (omega arith)
lines_of-last (b ∷ []) none some = passes b [] (All-head (λ (x : ℕ). x ≢ 10) b [] none)
lines_of-last (b ∷ c ∷ p) none some =
    passes b (c ∷ p) (All-head (λ (x : ℕ). x ≢ 10) b (c ∷ p) none) ∙ ap (onto_first b) (lines_of-last (c ∷ p) (All-tail (λ (x : ℕ). x ≢ 10) b (c ∷ p) none) (omega arith))

-- the first line is no shorter than a front without LF
pub IsLong : List ℕ → ℕ → Type 0
IsLong bytes n = (line : List ℕ) × (more : List (List ℕ)) × (lines_of bytes ≡ line ∷ more) × (n ≤ length line)

onto : (b n : ℕ) (bytes : List ℕ) (ls : List (List ℕ)) → lines_of (b ∷ bytes) ≡ onto_first b ls → n ≤ 1 → IsLong (b ∷ bytes) n
unfolding IsLong
onto b n bytes [] e small = (b ∷ [], [], e, small)
onto b n bytes (l ∷ ls) e small = (b ∷ l, ls, e, omega arith)

pub lines_of-long : (p rest : List ℕ) → HasNoLf p → 0 < length p → IsLong (p ++ rest) (length p)
unfolding IsLong
lines_of-long [] rest none some = absurd (omega arith)
lines_of-long (b ∷ []) rest none some = onto b 1 rest (lines_of rest) (passes b rest (All-head (λ (x : ℕ). x ≢ 10) b [] none)) (omega arith)
lines_of-long (b ∷ c ∷ p) rest none some =
    let inner = lines_of-long (c ∷ p) rest (All-tail (λ (x : ℕ). x ≢ 10) b (c ∷ p) none) (omega arith) in (
      b ∷ inner.0,
      inner.1,
      passes b ((c ∷ p) ++ rest) (All-head (λ (x : ℕ). x ≢ 10) b (c ∷ p) none) ∙ ap (onto_first b) inner.2,
      omega (arith, inner.3),
    )

pub too_long : (p rest : List ℕ) → HasNoLf p → max_line < length p → (long : List ℕ) × (more : List (List ℕ)) × (lines_of (p ++ rest) ≡ long ∷ more) × (max_line < length long)
unfolding IsLong
too_long p rest none long = let l = lines_of-long p rest none (omega arith) in (l.0, l.1, l.2, omega (arith, l.3))

-- ---- a line that is too long

too_many : (most : ℕ) (line : List ℕ) → most < length line → nat_le (length line) most ≡ false
too_many most line long = by_test (nat_le (length line) most) refl
  where
    by_test : (b : Bool) → nat_le (length line) most ≡ b → nat_le (length line) most ≡ false
    by_test true is = absurd (grind (arith, nat_tests))
    by_test false is = is

-- it is at fault for its bytes, whatever they are
pub says-too_long : {X : Type 0} (say : List (List ℕ) → Result X LineFault) (most : ℕ) (line : List ℕ) → most < length line → says say most line ≡ Err fault.Bytes
unfolding says
says-too_long say most line long =
    ap (λ (b : Bool). said_by_fields say (cond (not (b && list_all is_printable line)) (Err fault.Bytes) (cond (is_skipped line) (Ok None) (Ok (Some (fields_of line)))))) (too_many most line long)

-- ---- what an input shows

pub shown_front : (bytes shown : List ℕ) (n : ℕ) → StartsWith bytes shown → n ≤ length shown → take n bytes ≡ take n shown
shown_front bytes shown n front within = sym (take-take n (length shown) bytes within) ∙ ap (take n) front

pub parted : (bytes shown : List ℕ) (n : ℕ) → StartsWith bytes shown → n ≤ length shown → bytes ≡ take n shown ++ drop n bytes
parted bytes shown n front within = sym (take-append-drop n bytes) ∙ ap (λ (t : List ℕ). t ++ drop n bytes) (shown_front bytes shown n front within)

shorter : (bytes shown : List ℕ) (n : ℕ) → StartsWith bytes shown → n < length shown → n < length bytes
shorter bytes shown n front within = omega (arith, ap length front, length-take (length shown) bytes)

pub parted_at : (bytes shown : List ℕ) (n b : ℕ) → StartsWith bytes shown → n < length shown → get_or shown n 0 ≡ b → bytes ≡ take n shown ++ (b ∷ drop (n + 1) bytes)
parted_at bytes shown n b front within is =
    let here : get_or bytes n 0 ≡ b = sym (get_or-take (length shown) bytes n 0 within) ∙ ap (λ (t : List ℕ). get_or t n 0) front ∙ is in
    parted bytes shown n front (omega arith)
    ∙ ap (λ (t : List ℕ). take n shown ++ t) (drop-cons bytes n 0 (shorter bytes shown n front within) ∙ ap (λ (x : ℕ). x ∷ drop (suc n) bytes) here ∙ ap (λ (k : ℕ). b ∷ drop k bytes) (sym (add-one n)))

pub after_consume : (a b c : Option (List ℕ)) (limit : Option ℕ) (xs : List ℕ) (n len : ℕ) → a ≡ Some xs → n ≤ len → Keeps a b → IfSome a (λ _. IfSome limit (λ k. len ≤ k)) → DropsConsumable b c limit n → c ≡ Some (drop n xs)
after_consume None b c limit xs n len e within kept fits drops = absurd cc
after_consume (Some x) None c limit xs n len e within kept fits drops = absurd kept
after_consume (Some x) (Some y) c limit xs n len e within kept fits drops =
    let same : y ≡ xs = let f : x ≡ xs = cc in kept ∙ f in
    drops (room limit fits) ∙ ap (λ (t : List ℕ). Some (drop n t)) same
  where
    room : (o : Option ℕ) → IfSome o (λ k. len ≤ k) → IfSome o (λ k. n ≤ k)
    room None h = tt
    room (Some k) h = omega arith

-- ---- a line so far

-- some of the first line was read, and this is left
abbrev pub Partly : List ℕ → Option (List ℕ) → List ℕ → Type 0
Partly bytes left line = (rest : List ℕ) × (left ≡ Some rest) × (bytes ≡ line ++ rest) × HasNoLf line

joined : (line p : List ℕ) → HasNoLf line → HasNoLf p → HasNoLf (line ++ p)
joined line p a b = All-append (λ (x : ℕ). x ≢ 10) line p a b

moved : (bytes line rest p more after : List ℕ) → bytes ≡ line ++ rest → rest ≡ p ++ more → after ≡ line ++ p → bytes ≡ after ++ more
moved bytes line rest p more after e f h = e ∙ ap (λ (t : List ℕ). line ++ t) f ∙ sym (append_assoc line p more) ∙ ap (λ (t : List ℕ). t ++ more) (sym h)

pub goes_on : (bytes line after : List ℕ) (left new : Option (List ℕ)) (so_far : Partly bytes left line) → IsPiece so_far.0 new line after piece.More → Partly bytes new after
goes_on bytes line after left new (rest, _, split, none) (p, more, e, is, clean, grown) =
    (more, is, moved bytes line rest p more after split e grown, subst HasNoLf (sym grown) (joined line p none clean))

pub ends : (bytes line after : List ℕ) (left new : Option (List ℕ)) (so_far : Partly bytes left line) → IsPiece so_far.0 new line after piece.Ended → length after ≤ max_line → IsNext bytes new after next.Line
ends bytes line after left new (rest, _, split, none) (p, more, e, is, clean, grown) within =
    (more, is, ap lines_of (moved bytes line rest p (10 ∷ more) after split e grown) ∙ lines_of-ended after more (subst HasNoLf (sym grown) (joined line p none clean)), within)

pub ends_without : (bytes line after : List ℕ) (left new : Option (List ℕ)) (so_far : Partly bytes left line) → IsPiece so_far.0 new line after piece.AtEnd → 0 < length after → length after ≤ max_line → IsNext bytes new after next.Line
ends_without bytes line after left new (rest, _, split, none) (e, is, same) some within =
    let all : bytes ≡ after = split ∙ ap (λ (t : List ℕ). line ++ t) e ∙ append-nil line ∙ sym same in
    ([], is, ap lines_of all ∙ lines_of-last after (subst HasNoLf (sym same) none) some, within)

pub is_end : (bytes line after : List ℕ) (left new : Option (List ℕ)) (so_far : Partly bytes left line) → IsPiece so_far.0 new line after piece.AtEnd → length after ≡ 0 → IsNext bytes new after next.AtEnd
is_end bytes line [] left new (rest, _, split, none) (e, is, same) some = ap lines_of (split ∙ ap (λ (t : List ℕ). line ++ t) e ∙ append-nil line ∙ sym same)
is_end bytes line (x ∷ xs) left new (rest, _, split, none) (e, is, same) some = absurd (omega arith)

pub is_too_long : (bytes line after : List ℕ) (left new : Option (List ℕ)) (so_far : Partly bytes left line) → IsPiece so_far.0 new line after piece.TooLong → IsNext bytes new after next.TooLong
is_too_long bytes line after left new (rest, _, split, none) (p, more, e, clean, long) =
    let all : bytes ≡ (line ++ p) ++ more = moved bytes line rest p more (line ++ p) split e refl in
    let over = too_long (line ++ p) more (joined line p none clean) (omega (arith, length-append line p)) in
    (over.0, over.1, ap lines_of all ∙ over.2, over.3)
