-- What `parse` reads of a word is its number.
use Rattle.std.proofs.Common.{◌≡◌, ◌∙◌, ◌<◌, ◌^◌, ◌&&◌, ◌==◌, ℕ, Bool, true, false, refl, sym, ap, subst, arith, List, [], ◌∷◌, length, Some, None, nat_lt, lt-ltb, ltb-true}
use Rattle.std.proofs.lemmas.Bool.{lt-leb, ltb-false, and_parts}
use Rattle.std.specs.Prelude.{nat_le, slice_index}
use Rattle.std.specs.List.{list_all}
use Rattle.std.specs.Char.{digit_value}
use Rattle.std.specs.Str.Parse.{AllDigits, digits_value, without_leading_plus}
use Rattle.program_commands.specs.Number.{is_numeral, has_leading_zero, numeral_value, number_in}

digits_pass : (ds : List ℕ) → AllDigits 10 ds → list_all (λ d. nat_lt (digit_value d) 10) ds ≡ true
digits_pass [] h = refl
digits_pass (d ∷ ds) h = rw (lt-ltb (digit_value d) 10 h.0) (digits_pass ds h.1)

digits_from : (ds : List ℕ) → list_all (λ d. nat_lt (digit_value d) 10) ds ≡ true → AllDigits 10 ds
digits_from [] e = tt
digits_from (d ∷ ds) e =
    let parts = and_parts _ _ e in
    (ltb-true _ _ parts.0, digits_from ds parts.1)

and_false : (b : Bool) → (b && false) ≡ false
and_false true = refl
and_false false = refl

-- without a plus `parse` reads the whole word
whole : (text : List ℕ) → (slice_index text 0 == 43) ≡ false → without_leading_plus text ≡ text
whole text e = rw e refl

abbrev IsRead : List ℕ → Type 0
IsRead ds = ((0 < length ds) × AllDigits 10 ds) × (digits_value 10 ds < 2 ^ 32)

pub read_is_number : (text : List ℕ) (n : ℕ) → (slice_index text 0 == 43) ≡ false → has_leading_zero text ≡ false
    → IsRead (without_leading_plus text) × (n ≡ digits_value 10 (without_leading_plus text)) → Some n ≡ numeral_value text
read_is_number text n plus zero h =
    let is = whole text plus in
    let g = subst IsRead is h.0 in
    let same : Some n ≡ Some (digits_value 10 text) = ap (λ k. Some k) (h.1 ∙ ap (digits_value 10) is) in
    rw (lt-ltb 0 (length text) g.0.0, digits_pass text g.0.1, zero) same

pub unread_is_none : (lo hi : ℕ) (text : List ℕ) → hi < 2 ^ 32 → (slice_index text 0 == 43) ≡ false → has_leading_zero text ≡ false
    → (IsRead (without_leading_plus text) → ⊥) → None ≡ number_in lo hi text
unread_is_none lo hi text small plus zero h = go (is_numeral text) refl
  where
    large : (b : Bool) → is_numeral text ≡ true → nat_lt (digits_value 10 text) 4294967296 ≡ b → None ≡ number_in lo hi text
    large true t u =
        let parts = and_parts _ _ t in
        absurd (h (subst IsRead (sym (whole text plus)) ((ltb-true _ _ parts.0, digits_from text parts.1), ltb-true _ _ u)))
    large false t u =
        let big = ltb-false (digits_value 10 text) 4294967296 u in
        let over : nat_le (digits_value 10 text) hi ≡ false = lt-leb (digits_value 10 text) hi (omega arith) in
        rw (t, zero, over, and_false (nat_le lo (digits_value 10 text))) refl

    go : (b : Bool) → is_numeral text ≡ b → None ≡ number_in lo hi text
    go false t = rw t refl
    go true t = large (nat_lt (digits_value 10 text) 4294967296) t refl
