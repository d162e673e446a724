-- Excerpts of texts that are appended to each other.
use Rattle.std.proofs.Common.{◌≡◌, ℕ, zero, suc, ◌+◌, ◌-◌, ◌≤◌, ◌<◌, min, List, [], ◌∷◌, ◌++◌, take, drop, length, Option, sym, ap, subst, ◌∙◌, arith}
use Rattle.std.proofs.Math.Seq.{drop-nil, take-nil}
use Rattle.std.proofs.lemmas.List.{length-append, length-drop, length-take, take-append-drop}
use Rattle.hex.specs.Hex.{encode_lower, lower_digits}
use Rattle.byte_output.specs.declared.paged.PagedOutput.{PagedOutput}
use Rattle.byte_output.specs.Pending.{Passes}
use Rattle.byte_output.proofs.PendingLemmas.{Passes-then}
use Rattle.report.proofs.PrintingLemmas.{encode_append}
use Rattle.script_replay.specs.Acting.{PassesBeginning}
use Rattle.script_replay.proofs.GivenLemmas.{beginning_then, beginning_more, whole_given}
use Rattle.script_replay.specs.declared.excerpt.TheConstants.{EXCERPT_BYTES}

drop_more : (n : ℕ) (x y : List ℕ) → drop n (x ++ y) ≡ drop n x ++ drop (n - length x) y
drop_more n [] y = let same : n - 0 ≡ n = omega arith in ap (λ (xs : List ℕ). xs ++ drop n y) (sym (drop-nil n)) ∙ ap (λ m. drop n [] ++ drop m y) (sym same)
drop_more zero (a ∷ x) y = let none : 0 - length (a ∷ x) ≡ 0 = omega arith in ap (λ m. (a ∷ x) ++ drop m y) (sym none)
drop_more (suc n) (a ∷ x) y = let same : n - length x ≡ suc n - length (a ∷ x) = omega arith in drop_more n x y ∙ ap (λ m. drop n x ++ drop m y) same

take_more : (n : ℕ) (x y : List ℕ) → take n (x ++ y) ≡ take n x ++ take (n - length (take n x)) y
take_more zero x y = let none : 0 - length (take 0 x) ≡ 0 = omega arith in ap (λ m. take m y) (sym none)
take_more (suc n) [] y = let same : suc n ≡ suc n - length {A = ℕ} [] = omega arith in ap (λ m. take m y) same
take_more (suc n) (a ∷ x) y =
    let same : n - length (take n x) ≡ suc n - length (take (suc n) (a ∷ x)) = omega arith in
    ap (λ (xs : List ℕ). a ∷ xs) (take_more n x y ∙ ap (λ m. take n x ++ take m y) same)

take_least : (n : ℕ) (xs : List ℕ) → take (min (length xs) n) xs ≡ take n xs
take_least zero xs = let none : min (length xs) 0 ≡ 0 = omega arith in ap (λ m. take m xs) none
take_least (suc n) [] = take-nil (min (length {A = ℕ} []) (suc n))
take_least (suc n) (a ∷ xs) =
    let same : min (length (a ∷ xs)) (suc n) ≡ suc (min (length xs) n) = omega arith in
    ap (λ m. take m (a ∷ xs)) same ∙ ap (λ (ys : List ℕ). a ∷ ys) (take_least n xs)

drop_least : (n : ℕ) (xs : List ℕ) → drop (min n (length xs)) xs ≡ drop n xs
drop_least zero xs = let none : min 0 (length xs) ≡ 0 = omega arith in ap (λ m. drop m xs) none
drop_least (suc n) [] = drop-nil (min (suc n) (length {A = ℕ} [])) ∙ sym (drop-nil (suc n))
drop_least (suc n) (a ∷ xs) =
    let same : min (suc n) (length (a ∷ xs)) ≡ suc (min n (length xs)) = omega arith in
    ap (λ m. drop m (a ∷ xs)) same ∙ drop_least n xs

take_all : (n : ℕ) (xs : List ℕ) → length xs ≤ n → take n xs ≡ xs
take_all n [] le = take-nil n
take_all zero (x ∷ xs) le = absurd (omega arith)
take_all (suc n) (x ∷ xs) le = ap (λ (ys : List ℕ). x ∷ ys) (take_all n xs (omega arith))

-- an excerpt with the front of what it hasn't skipped of a piece
pub seen_more : (from : ℕ) (text piece old : List ℕ) (skip skipped taken : ℕ) → skip ≡ from - length text → old ≡ take EXCERPT_BYTES (drop from text) → skipped ≡ min skip (length piece)
    → taken ≡ min (length (drop skipped piece)) (EXCERPT_BYTES - length old) → old ++ take taken (drop skipped piece) ≡ take EXCERPT_BYTES (drop from (text ++ piece))
seen_more from text piece old skip skipped taken at is skips takes =
    let dropped : drop skipped piece ≡ drop (from - length text) piece = ap (λ n. drop n piece) skips ∙ drop_least skip piece ∙ ap (λ n. drop n piece) at in
    let rest : List ℕ = drop (from - length text) piece in
    let front : take taken (drop skipped piece) ≡ take (EXCERPT_BYTES - length (take EXCERPT_BYTES (drop from text))) rest =
    ap (λ n. take n (drop skipped piece)) takes ∙ take_least (EXCERPT_BYTES - length old) (drop skipped piece)
    ∙ ap (λ (xs : List ℕ). take (EXCERPT_BYTES - length xs) (drop skipped piece)) is
    ∙ ap (λ (xs : List ℕ). take (EXCERPT_BYTES - length (take EXCERPT_BYTES (drop from text))) xs) dropped in
    ap (λ (xs : List ℕ). xs ++ take taken (drop skipped piece)) is
    ∙ ap (λ (xs : List ℕ). take EXCERPT_BYTES (drop from text) ++ xs) front
    ∙ sym (take_more EXCERPT_BYTES (drop from text) rest)
    ∙ ap (take EXCERPT_BYTES) (sym (drop_more from text piece))

pub skipped_more : (from : ℕ) (text piece : List ℕ) (skip skipped : ℕ) → skip ≡ from - length text → skipped ≡ min skip (length piece) → skip - skipped ≡ from - length (text ++ piece)
skipped_more from text piece skip skipped at skips = let len = length-append text piece in omega arith

-- the next excerpt behind those so far
pub one_excerpt : (n : ℕ) (xs : List ℕ) → take (n + EXCERPT_BYTES) xs ≡ take n xs ++ take EXCERPT_BYTES (drop n xs)
one_excerpt n [] = take-nil (n + EXCERPT_BYTES) ∙ sym (ap (λ (ys : List ℕ). ys ++ take EXCERPT_BYTES (drop n [])) (take-nil n) ∙ ap (take EXCERPT_BYTES) (drop-nil n) ∙ take-nil EXCERPT_BYTES)
one_excerpt zero (x ∷ xs) = let same : 0 + EXCERPT_BYTES ≡ EXCERPT_BYTES = omega arith in ap (λ m. take m (x ∷ xs)) same
one_excerpt (suc n) (x ∷ xs) =
    let same : suc n + EXCERPT_BYTES ≡ suc (n + EXCERPT_BYTES) = omega arith in
    ap (λ m. take m (x ∷ xs)) same ∙ ap (λ (ys : List ℕ). x ∷ ys) (one_excerpt n xs)

-- the last one
pub last_excerpt : (n : ℕ) (xs : List ℕ) → length (take EXCERPT_BYTES (drop n xs)) < EXCERPT_BYTES → take n xs ++ take EXCERPT_BYTES (drop n xs) ≡ xs
last_excerpt n xs short =
    let len = length-drop n xs in
    let all : take EXCERPT_BYTES (drop n xs) ≡ drop n xs = take-short (drop n xs) short in
    ap (λ (ys : List ℕ). take n xs ++ ys) all ∙ take-append-drop n xs
  where
    take-short : (ys : List ℕ) → length (take EXCERPT_BYTES ys) < EXCERPT_BYTES → take EXCERPT_BYTES ys ≡ ys
    take-short ys lt = let l = length-take EXCERPT_BYTES ys in take_all EXCERPT_BYTES ys (omega arith)

-- ---- excerpts in hex

pub digits_so_far : {W : Type 0} (contents : W → Option (List ℕ)) (old mid new : PagedOutput W) (n : ℕ) (xs excerpt : List ℕ) → excerpt ≡ take EXCERPT_BYTES (drop n xs) → Passes contents old mid (encode_lower (take n xs))
    → Passes contents mid new (encode_lower excerpt) → Passes contents old new (encode_lower (take (n + EXCERPT_BYTES) xs))
digits_so_far contents old mid new n xs excerpt is given this =
    subst (λ (ys : List ℕ). Passes contents old new (encode_lower ys)) (ap (λ (ys : List ℕ). take n xs ++ ys) is ∙ sym (one_excerpt n xs))
    (subst (Passes contents old new) (sym (encode_append lower_digits (take n xs) excerpt)) (Passes-then contents old mid new (encode_lower (take n xs)) (encode_lower excerpt) given this))

pub digits_whole : {W : Type 0} (contents : W → Option (List ℕ)) (old mid new : PagedOutput W) (n : ℕ) (xs excerpt : List ℕ) → excerpt ≡ take EXCERPT_BYTES (drop n xs) → length excerpt < EXCERPT_BYTES
    → Passes contents old mid (encode_lower (take n xs)) → Passes contents mid new (encode_lower excerpt) → Passes contents old new (encode_lower xs)
digits_whole contents old mid new n xs excerpt is short given this =
    let ends : length (take EXCERPT_BYTES (drop n xs)) < EXCERPT_BYTES = subst (λ (ys : List ℕ). length ys < EXCERPT_BYTES) is short in
    subst (λ (ys : List ℕ). Passes contents old new (encode_lower ys)) (ap (λ (ys : List ℕ). take n xs ++ ys) is ∙ last_excerpt n xs ends)
    (subst (Passes contents old new) (sym (encode_append lower_digits (take n xs) excerpt)) (Passes-then contents old mid new (encode_lower (take n xs)) (encode_lower excerpt) given this))

in_hex : (n : ℕ) (xs : List ℕ) → encode_lower (take n xs) ++ encode_lower (drop n xs) ≡ encode_lower xs
in_hex n xs = sym (encode_append lower_digits (take n xs) (drop n xs)) ∙ ap encode_lower (take-append-drop n xs)

-- a beginning of an excerpt behind those so far
pub digits_begun : {W : Type 0} (contents : W → Option (List ℕ)) (old mid new : PagedOutput W) (n : ℕ) (xs excerpt : List ℕ) → excerpt ≡ take EXCERPT_BYTES (drop n xs) → Passes contents old mid (encode_lower (take n xs))
    → PassesBeginning contents mid new (encode_lower excerpt) → PassesBeginning contents old new (encode_lower xs)
digits_begun contents old mid new n xs excerpt is given this =
    let front : List ℕ = take EXCERPT_BYTES (drop n xs) in
    let rest : List ℕ = drop EXCERPT_BYTES (drop n xs) in
    let begun = beginning_more contents mid new (encode_lower front) (encode_lower rest) (subst (λ (ys : List ℕ). PassesBeginning contents mid new (encode_lower ys)) is this) in
    let more = subst (PassesBeginning contents mid new) (in_hex EXCERPT_BYTES (drop n xs)) begun in
    subst (PassesBeginning contents old new) (in_hex n xs) (beginning_then contents old mid new (encode_lower (take n xs)) (encode_lower (drop n xs)) given more)

-- so many digits are a beginning of all
pub digits_given : {W : Type 0} (contents : W → Option (List ℕ)) (old new : PagedOutput W) (n : ℕ) (xs : List ℕ) → Passes contents old new (encode_lower (take n xs)) → PassesBeginning contents old new (encode_lower xs)
digits_given contents old new n xs given =
    subst (PassesBeginning contents old new) (in_hex n xs) (beginning_more contents old new (encode_lower (take n xs)) (encode_lower (drop n xs)) (whole_given contents old new (encode_lower (take n xs)) given))
