-- A number is read where its decimal text stands.
use Rattle.std.proofs.Common.{◌≡◌, ℕ, ◌<◌, ◌≤◌, ◌^◌, Bool, true, false, List, Some, None, Result, Ok, refl, sym, ap, subst, ◌∙◌, arith}
use Rattle.std.specs.Prelude.{nat_le, ◌&&◌, if◌then◌else◌}
use Rattle.std.specs.Fmt.{decimal}
use Rattle.std.specs.Str.{bytes_eq}
use Rattle.std.specs.Str.Parse.{digits_value, ParsesUnsigned}
use Rattle.std.proofs.lemmas.Bool.{leb-true, le-leb, and_from, and_parts}
use Rattle.std.proofs.lemmas.Fmt.{decimal_is_IsNumeral, parse-decimal}
use Rattle.std.proofs.lemmas.Slice.Eq.{bytes_eq-Decides}
use Rattle.script.specs.Text.{number_of}

picked : (test : Bool) (n : ℕ) → test ≡ true → (if test then Some n else None) ≡ Some n
picked true n e = refl
picked false n e = absurd cc

dropped : (test : Bool) (n : ℕ) → (test ≡ true → ⊥) → (if test then Some n else None) ≡ None
dropped true n h = absurd (h refl)
dropped false n h = refl

pub value_is : (field : List ℕ) (k : ℕ) → k < 2 ^ 64 → field ≡ decimal k → digits_value 10 field ≡ k
value_is field k small e = ap (digits_value 10) e ∙ (decimal_is_IsNumeral k small).1

pub number_of-some : (least most k : ℕ) (field : List ℕ) → k < 2 ^ 64 → field ≡ decimal k → least ≤ k → k ≤ most → number_of least most field ≡ Some k
unfolding number_of
number_of-some least most k field small e low high =
    let v = value_is field k small e in
    subst (λ (n : ℕ). (if bytes_eq field (decimal n) && (nat_le least n && nat_le n most) then Some n else None) ≡ Some k) (sym v)
    (picked (bytes_eq field (decimal k) && (nat_le least k && nat_le k most)) k (and_from _ _ ((bytes_eq-Decides field (decimal k)).1 e) (and_from _ _ (le-leb least k low) (le-leb k most high))))

pub number_of-none : (least most : ℕ) (field : List ℕ) → ((n : ℕ) → field ≡ decimal n → least ≤ n → n ≤ most → ⊥) → number_of least most field ≡ None
unfolding number_of
number_of-none least most field none =
    let n = digits_value 10 field in
    dropped (bytes_eq field (decimal (digits_value 10 field)) && (nat_le least (digits_value 10 field) && nat_le (digits_value 10 field) most)) (digits_value 10 field)
    (λ t.
    let parts = and_parts (bytes_eq field (decimal (digits_value 10 field))) _ t in
    let within = and_parts (nat_le least (digits_value 10 field)) (nat_le (digits_value 10 field) most) parts.1 in
    none (digits_value 10 field) ((bytes_eq-Decides field (decimal (digits_value 10 field))).0 parts.0) (leb-true _ _ within.0) (leb-true _ _ within.1))

-- what is not parsed is no number
pub number_of-unparsed : {E : Type 0} (least most : ℕ) (field : List ℕ) (r : Result ℕ E) → most < 2 ^ 64 → ParsesUnsigned 64 10 field r → ((n : ℕ) → r ≡ Ok n → field ≡ decimal n → least ≤ n → n ≤ most → ⊥) → number_of least most field ≡ None
number_of-unparsed least most field r small p not = number_of-none least most field (λ n e low high.
    not n (parse-decimal 64 n field r (omega arith) (omega arith) e p) e low high)
