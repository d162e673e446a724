-- Rows whose bytes stand one behind another: one more, the first, the keys.
use Rattle.std.proofs.Common.{◌≡◌, ◌∙◌, ℕ, ◌+◌, ◌≤◌, zero, suc, List, [], ◌∷◌, ◌++◌, length, map, take, drop, refl, sym, ap, subst, arith, Bool, true, cond}
use Rattle.std.specs.Prelude.{option_map, slice_get}
use Rattle.std.proofs.lemmas.List.{take-append-le, drop-append-le, take_all, length-append, length-drop, length-map}
use Rattle.schema.specs.Rows.{Key}
use Rattle.row_sets.specs.FlatRows.{Row, rows_of, total, AreWhole}

no_bytes : (bytes : List ℕ) → 0 ≡ length bytes → bytes ≡ []
no_bytes [] is = refl
no_bytes (b ∷ bytes) is = absurd (omega arith)

whole : (row : List ℕ) → take (length row) row ≡ row
whole row = take_all (length row) row (omega arith)

pub one_more : (keys : List Key) (lengths bytes : List ℕ) (key : Key) (row : List ℕ) → AreWhole keys lengths bytes
    → rows_of (keys ++ key ∷ []) (lengths ++ length row ∷ []) (bytes ++ row) ≡ rows_of keys lengths bytes ++ (key, row) ∷ []
one_more [] [] bytes key row are =
    ap (λ (l : List ℕ). rows_of (key ∷ []) (length row ∷ []) (l ++ row)) (no_bytes bytes are.all)
    ∙ ap (λ (l : List ℕ). (key, l) ∷ []) (whole row)
one_more (k ∷ keys) [] bytes key row are = absurd (let e = are.counted in omega (arith, e))
one_more [] (n ∷ lengths) bytes key row are = absurd (let e = are.counted in omega (arith, e))
one_more (k ∷ keys) (n ∷ lengths) bytes key row are =
    let all = are.all in
    let fits : n ≤ length bytes = omega (arith, all) in
    let left = length-drop n bytes in
    let counted = are.counted in
    ap (λ (l : List ℕ). (k, l) ∷ rows_of (keys ++ key ∷ []) (lengths ++ length row ∷ []) (drop n (bytes ++ row))) (take-append-le n bytes row fits)
    ∙ ap (λ (l : List ℕ). (k, take n bytes) ∷ rows_of (keys ++ key ∷ []) (lengths ++ length row ∷ []) l) (drop-append-le n bytes row fits)
    ∙ ap (λ (l : List Row). (k, take n bytes) ∷ l) (one_more keys lengths (drop n bytes) key row (record { counted = omega (arith, counted); all = omega (arith, all, left) }))

total-append : (lengths : List ℕ) (n : ℕ) → total (lengths ++ n ∷ []) ≡ total lengths + n
total-append [] n = omega arith
total-append (m ∷ lengths) n = let more = total-append lengths n in omega (arith, more)

pub still_whole : (keys : List Key) (lengths bytes : List ℕ) (key : Key) (row : List ℕ) → AreWhole keys lengths bytes → AreWhole (keys ++ key ∷ []) (lengths ++ length row ∷ []) (bytes ++ row)
still_whole keys lengths bytes key row are =
    let a = length-append keys (key ∷ []) in
    let b = length-append lengths (length row ∷ []) in
    let c = length-append bytes row in
    let d = total-append lengths (length row) in
    let counted = are.counted in
    let all = are.all in
    record { counted = omega (arith, a, b, counted); all = omega (arith, c, d, all) }

pub keys_are : (keys : List Key) (lengths bytes : List ℕ) → length lengths ≡ length keys → map (λ row. row.0) (rows_of keys lengths bytes) ≡ keys
keys_are [] lengths bytes is = refl
keys_are (k ∷ keys) [] bytes is = absurd (omega (arith, is))
keys_are (k ∷ keys) (n ∷ lengths) bytes is = ap (λ (l : List Key). k ∷ l) (keys_are keys lengths (drop n bytes) (omega (arith, is)))

pub length_is : (keys : List Key) (lengths bytes : List ℕ) → length lengths ≡ length keys → length (rows_of keys lengths bytes) ≡ length keys
length_is keys lengths bytes is = sym (length-map (rows_of keys lengths bytes) (λ row. row.0)) ∙ ap (λ (l : List Key). length l) (keys_are keys lengths bytes is)

got : (rows : List Row) (i : ℕ) → slice_get (map (λ row. row.0) rows) i ≡ option_map (λ row. row.0) (slice_get rows i)
got [] i = refl
got (row ∷ rows) zero = refl
got (row ∷ rows) (suc i) = got rows i

pub key_at : (keys : List Key) (lengths bytes : List ℕ) (i : ℕ) → length lengths ≡ length keys → slice_get keys i ≡ option_map (λ row. row.0) (slice_get (rows_of keys lengths bytes) i)
key_at keys lengths bytes i is = ap (λ (l : List Key). slice_get l i) (sym (keys_are keys lengths bytes is)) ∙ got (rows_of keys lengths bytes) i

-- the row that stands first, and the others
pub first_row : (keys rest : List Key) (lengths counts bytes : List ℕ) (key : Key) (n : ℕ) → keys ≡ key ∷ rest → lengths ≡ n ∷ counts → rows_of keys lengths bytes ≡ (key, take n bytes) ∷ rows_of rest counts (drop n bytes)
first_row keys rest lengths counts bytes key n first count =
    ap (λ (l : List Key). rows_of l lengths bytes) first ∙ ap (λ (l : List ℕ). rows_of (key ∷ rest) l bytes) count

pub rest_whole : (rest : List Key) (counts bytes : List ℕ) (key : Key) (n : ℕ) → AreWhole (key ∷ rest) (n ∷ counts) bytes → (n ≤ length bytes) × AreWhole rest counts (drop n bytes)
rest_whole rest counts bytes key n are =
    let left = length-drop n bytes in
    let counted = are.counted in
    let all = are.all in
    (omega (arith, all), record { counted = omega (arith, counted); all = omega (arith, all, left) })

-- ---- one more, in code

pushed : {X : Type 0} (b : Bool) (new before old : List X) (x : X) → new ≡ cond b (before ++ x ∷ []) before → b ≡ true → before ≡ old → new ≡ old ++ x ∷ []
pushed b new before old x is ok same = is ∙ ap (λ (t : Bool). cond t (before ++ x ∷ []) before) ok ∙ ap (λ l. l ++ x ∷ []) same

-- key and length were pushed behind room that was made, and the bytes came behind
pub all_pushed : (keys more kept : List Key) (lengths counts held bytes all : List ℕ) (key : Key) (row : List ℕ) (a b : Bool)
    → more ≡ cond a (kept ++ key ∷ []) kept → a ≡ true → kept ≡ keys → counts ≡ cond b (held ++ length row ∷ []) held → b ≡ true → held ≡ lengths → all ≡ bytes ++ row
    → AreWhole keys lengths bytes → AreWhole more counts all × (rows_of more counts all ≡ rows_of keys lengths bytes ++ (key, row) ∷ [])
all_pushed keys more kept lengths counts held bytes all key row a b keyed ok same counted done there with_bytes are =
    let k = pushed a more kept keys key keyed ok same in
    let n = pushed b counts held lengths (length row) counted done there in (
      subst (λ (l : List Key). AreWhole l counts all) (sym k)
          (subst (λ (l : List ℕ). AreWhole (keys ++ key ∷ []) l all) (sym n)
          (subst (λ (l : List ℕ). AreWhole (keys ++ key ∷ []) (lengths ++ length row ∷ []) l) (sym with_bytes) (still_whole keys lengths bytes key row are))),
      ap (λ (l : List Key). rows_of l counts all) k
          ∙ ap (λ (l : List ℕ). rows_of (keys ++ key ∷ []) l all) n
          ∙ ap (λ (l : List ℕ). rows_of (keys ++ key ∷ []) (lengths ++ length row ∷ []) l) with_bytes
          ∙ one_more keys lengths bytes key row are,
    )
