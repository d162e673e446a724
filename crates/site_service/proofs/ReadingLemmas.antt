-- The first line of some bytes, read by pieces.
use Rattle.std.proofs.Common.{◌≡◌, ◌≢◌, ℕ, zero, suc, ◌+◌, ◌-◌, ◌<◌, ◌≤◌, min, Bool, List, [], ◌∷◌, ◌++◌, Option, Some, None, length, take, drop, get_or, refl, sym, ap, subst, ◌∙◌, arith, cond, ne_eqb, append_assoc}
use Rattle.std.proofs.Math.Seq.{take-nil}
use Rattle.std.proofs.lemmas.List.{append-nil, drop-take, length-drop}
use Rattle.std.specs.Io.{StartsWith}
use Rattle.script.proofs.LineLemmas.{parted_at}
use Rattle.std.specs.Io.KnownBytes.{Keeps}
use Rattle.std.proofs.lemmas.List.Elements.{All-head, All-tail, All-append}
use Rattle.script.specs.Reading.{HasNoLf}
use Rattle.site_service.specs.declared.input.TheConstants.{MAX_SITE_LINE}
use Rattle.site_service.specs.declared.input.Piece.TheVariants as piece
use Rattle.site_service.specs.declared.input.NextLine.TheVariants as next
use Rattle.site_service.specs.InputLines.{in_front, whole_lines, kept_of, IsPiece, IsNextLine}

passes : (b : ℕ) (rest : List ℕ) → b ≢ 10 → whole_lines (b ∷ rest) ≡ in_front b (whole_lines rest)
passes b rest ne = ap (λ (t : Bool). cond t ([] ∷ whole_lines rest) (in_front b (whole_lines rest))) (ne_eqb b 10 ne)

ended : (p rest : List ℕ) → HasNoLf p → whole_lines (p ++ (10 ∷ rest)) ≡ p ∷ whole_lines rest
ended [] rest none = refl
ended (b ∷ p) rest none =
    passes b (p ++ (10 ∷ rest)) (All-head (λ (x : ℕ). x ≢ 10) b p none) ∙ ap (in_front b) (ended p rest (All-tail (λ (x : ℕ). x ≢ 10) b p none))

not_ended : (p : List ℕ) → HasNoLf p → whole_lines p ≡ []
not_ended [] none = refl
not_ended (b ∷ p) none =
    passes b p (All-head (λ (x : ℕ). x ≢ 10) b p none) ∙ ap (in_front b) (not_ended p (All-tail (λ (x : ℕ). x ≢ 10) b p none))

-- ---- what is kept of a line

take_of_taken : (n : ℕ) (xs ys : List ℕ) → take n (take n xs ++ ys) ≡ take n (xs ++ ys)
take_of_taken zero xs ys = refl
take_of_taken (suc n) [] ys = refl
take_of_taken (suc n) (x ∷ xs) ys = ap (λ (t : List ℕ). x ∷ t) (take_of_taken n xs ys)

take_both : (n c : ℕ) (ys : List ℕ) → take (min c n) ys ≡ take n (take c ys)
take_both zero c ys = let none : min c 0 ≡ 0 = omega arith in ap (λ m. take m ys) none
take_both (suc n) zero ys = let none : min 0 (suc n) ≡ 0 = omega arith in ap (λ m. take m ys) none
take_both (suc n) (suc c) [] = take-nil (min (suc c) (suc n))
take_both (suc n) (suc c) (y ∷ ys) =
    let same : min (suc c) (suc n) ≡ suc (min c n) = omega arith in
    ap (λ m. take m (y ∷ ys)) same ∙ ap (λ (t : List ℕ). y ∷ t) (take_both n c ys)

-- as much of a piece is taken as there is room for
kept_more : (n c k : ℕ) (xs ys : List ℕ) → length xs ≤ n → k ≡ min c (n - length xs) → xs ++ take k ys ≡ take n (xs ++ take c ys)
kept_more n c k [] ys room is =
    let same : k ≡ min c n = omega (arith, is) in ap (λ m. take m ys) same ∙ take_both n c ys
kept_more zero c k (x ∷ xs) ys room is = absurd (omega (arith, room))
kept_more (suc n) c k (x ∷ xs) ys room is =
    ap (λ (t : List ℕ). x ∷ t) (kept_more n c k xs ys (omega (arith, room)) (omega (arith, is)))

-- what a look at the input shows is taken up to a place
pub shown_kept : (line now shown : List ℕ) (count kept : ℕ) → length line ≤ MAX_SITE_LINE + 1 → kept ≡ min count ((MAX_SITE_LINE + 1) - length line)
    → now ≡ line ++ take kept shown → now ≡ kept_of (line ++ take count shown)
shown_kept line now shown count kept room is grown = grown ∙ kept_more (MAX_SITE_LINE + 1) count kept line shown room is

-- a look that was interrupted gave nothing
pub nothing_kept : (line : List ℕ) → length line ≤ MAX_SITE_LINE + 1 → line ≡ kept_of (line ++ [])
nothing_kept line room = sym (take_whole (MAX_SITE_LINE + 1) (line ++ []) (omega (arith, ap length (append-nil line), room)) ∙ append-nil line)
  where
    take_whole : (n : ℕ) (xs : List ℕ) → length xs ≤ n → take n xs ≡ xs
    take_whole n [] le = take-nil n
    take_whole zero (x ∷ xs) le = absurd (omega (arith, le))
    take_whole (suc n) (x ∷ xs) le = ap (λ (t : List ℕ). x ∷ t) (take_whole n xs (omega (arith, le)))

-- ---- another line behind it

-- what an input shows stands at the front of it, from each place on
shown_behind : (bytes shown : List ℕ) (n : ℕ) → StartsWith bytes shown → n ≤ length shown → StartsWith (drop n bytes) (drop n shown)
shown_behind bytes shown n front within =
    let total : n + (length shown - n) ≡ length shown = omega (arith, within) in
    ap (λ k. take k (drop n bytes)) (length-drop n shown) ∙ sym (drop-take n (length shown - n) bytes) ∙ ap (λ k. drop n (take k bytes)) total ∙ ap (drop n) front

pub followed : (bytes shown behind : List ℕ) (n at : ℕ) → StartsWith bytes shown → n ≤ length shown → behind ≡ drop n shown → at < length behind → get_or behind at 0 ≡ 10
    → HasNoLf (take at behind) → whole_lines (drop n bytes) ≢ []
followed bytes shown behind n at front within same inside lf clean none =
    let there = subst (StartsWith (drop n bytes)) (sym same) (shown_behind bytes shown n front within) in
    let one = ap whole_lines (parted_at (drop n bytes) behind at 10 there inside lf) ∙ ended (take at behind) (drop (at + 1) (drop n bytes)) clean in
    let no : take at behind ∷ whole_lines (drop (at + 1) (drop n bytes)) ≡ [] = sym one ∙ none in
    absurd cc

-- ---- looks at the input

pub still_known : (a b : Option (List ℕ)) (bytes : List ℕ) → a ≡ Some bytes → Keeps a b → b ≡ Some bytes
still_known None b bytes is kept = absurd cc
still_known (Some x) None bytes is kept = absurd kept
still_known (Some x) (Some y) bytes is kept = ap Some kept ∙ is

take_all : (n : ℕ) (xs : List ℕ) → length (take n xs) < n → take n xs ≡ xs
take_all zero xs short = absurd (omega arith)
take_all (suc n) [] short = refl
take_all (suc n) (x ∷ xs) short = ap (λ (t : List ℕ). x ∷ t) (take_all n xs (omega (arith, short)))

take_long : (n : ℕ) (xs : List ℕ) → n ≤ length (take n xs) → n ≤ length xs
take_long zero xs long = omega arith
take_long (suc n) [] long = absurd (omega arith)
take_long (suc n) (x ∷ xs) long = let h = take_long n xs (omega (arith, long)) in omega (arith, h)

-- ---- a line so far

-- so much was read of the first line, this is kept of it, and that is left
pub record Partly (bytes : List ℕ) (left : Option (List ℕ)) (line : List ℕ) : Type 0 where
  pub front : List ℕ
  pub rest : List ℕ
  pub known : left ≡ Some rest
  pub split : bytes ≡ front ++ rest
  pub clean : HasNoLf front
  pub kept : line ≡ kept_of front

pub none_before : HasNoLf []
none_before k d less e = absurd (omega (arith, less))

pub nothing_yet : (bytes : List ℕ) (left : Option (List ℕ)) (line : List ℕ) → left ≡ Some bytes → line ≡ [] → Partly bytes left line
nothing_yet bytes left line known none = record { front = []; rest = bytes; known = known; split = refl; clean = none_before; kept = none }

joined : (front p : List ℕ) → HasNoLf front → HasNoLf p → HasNoLf (front ++ p)
joined front p a b = All-append (λ (x : ℕ). x ≢ 10) front p a b

moved : (bytes front rest p more : List ℕ) → bytes ≡ front ++ rest → rest ≡ p ++ more → bytes ≡ (front ++ p) ++ more
moved bytes front rest p more e f = e ∙ ap (λ (t : List ℕ). front ++ t) f ∙ sym (append_assoc front p more)

grown : (line after front p : List ℕ) → line ≡ kept_of front → after ≡ kept_of (line ++ p) → after ≡ kept_of (front ++ p)
grown line after front p e f = f ∙ ap (λ (t : List ℕ). kept_of (t ++ p)) e ∙ take_of_taken (MAX_SITE_LINE + 1) front p

pub goes_on : (bytes line after : List ℕ) (left new : Option (List ℕ)) (so_far : Partly bytes left line) → IsPiece so_far.rest new line after piece.More → Partly bytes new after
goes_on bytes line after left new so_far (p, more, e, is, clean, kept) = record {
  front = so_far.front ++ p;
  rest = more;
  known = is;
  split = moved bytes so_far.front so_far.rest p more so_far.split e;
  clean = joined so_far.front p so_far.clean clean;
  kept = grown line after so_far.front p so_far.kept kept;
}

pub ends : (bytes line after : List ℕ) (left new : Option (List ℕ)) (so_far : Partly bytes left line) (is_followed : Bool) → IsPiece so_far.rest new line after (piece.Ended is_followed) → length after ≤ MAX_SITE_LINE
    → IsNextLine bytes new after (next.Line is_followed)
ends bytes line after left new so_far is_followed (p, more, e, is, clean, kept, behind) short =
    let whole = so_far.front ++ p in
    let now = grown line after so_far.front p so_far.kept kept in
    let less : length (kept_of whole) < MAX_SITE_LINE + 1 = omega (arith, ap length now, short) in
    let same : after ≡ whole = now ∙ take_all (MAX_SITE_LINE + 1) whole less in (
      more,
      is,
      ap whole_lines (moved bytes so_far.front so_far.rest p (10 ∷ more) so_far.split e) ∙ ended whole more (joined so_far.front p so_far.clean clean) ∙ ap (λ (t : List ℕ). t ∷ whole_lines more) (sym same),
      short,
      behind,
    )

pub ends_long : (bytes line after : List ℕ) (left new : Option (List ℕ)) (so_far : Partly bytes left line) (is_followed : Bool) → IsPiece so_far.rest new line after (piece.Ended is_followed) → MAX_SITE_LINE < length after
    → IsNextLine bytes new after next.TooLong
ends_long bytes line after left new so_far is_followed (p, more, e, is, clean, kept, behind) long =
    let whole = so_far.front ++ p in
    let now = grown line after so_far.front p so_far.kept kept in
    let more_than : MAX_SITE_LINE + 1 ≤ length (kept_of whole) = omega (arith, ap length now, long) in
    let over = take_long (MAX_SITE_LINE + 1) whole more_than in (
      whole,
      more,
      is,
      ap whole_lines (moved bytes so_far.front so_far.rest p (10 ∷ more) so_far.split e) ∙ ended whole more (joined so_far.front p so_far.clean clean),
      omega (arith, over),
    )

pub ends_nowhere : (bytes line after : List ℕ) (left new : Option (List ℕ)) (so_far : Partly bytes left line) → IsPiece so_far.rest new line after piece.AtEnd → IsNextLine bytes new after next.AtEnd
ends_nowhere bytes line after left new so_far none =
    ap whole_lines (so_far.split ∙ ap (λ (t : List ℕ). so_far.front ++ t) none ∙ append-nil so_far.front) ∙ not_ended so_far.front so_far.clean
