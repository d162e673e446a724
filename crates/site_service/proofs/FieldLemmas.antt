-- Fields as they are printed: what they are made of, and that they are read back.
use Rattle.std.proofs.Common.{◌≡◌, ℕ, ◌+◌, ◌*◌, ◌/◌, ◌%◌, ◌^◌, ◌==◌, ◌<◌, ◌≤◌, nat_le, Bool, true, false, ◌&&◌, List, [], ◌∷◌, length, All, Some, None, Ok, refl, sym, ap, subst, inl, inr, arith}
use Rattle.std.specs.Prelude.{codes, slice_index, if◌then◌else◌}
use Rattle.std.specs.List.{list_all}
use Rattle.std.specs.Result.{result_ok}
use Rattle.std.specs.Str.{bytes_eq}
use Rattle.std.specs.Fmt.{decimal}
use Rattle.std.proofs.lemmas.Bool.{and_parts, cases_lt, leb-true}
use Rattle.std.proofs.lemmas.Bool.Decides.{nat_tests}
use Rattle.std.proofs.lemmas.Fmt.{decimal_by_steps, length-decimal-le}
use Rattle.std.proofs.lemmas.List.{get_or_past}
use Rattle.std.proofs.lemmas.List.Elements.{All-cons, All-nil, All-push, All-tail, All-head, All-weaker}
use Rattle.std.proofs.lemmas.List.Sums.{AllPass-from_list_all}
use Rattle.std.proofs.lemmas.Slice.Eq.{bytes_eq-Decides}
use Rattle.hex.specs.Hex.{decode_of, encode_lower, encode_with, lower_digits, IsBytes as AreHexBytes}
use Rattle.hex.proofs.HexLemmas.{decode_of-encode_lower, length-encode_with}
use Rattle.log_model.specs.Name.{is_name, is_name_byte}
use Rattle.script.specs.Text.{bytes_of_hex}
use Rattle.site_report.specs.SettingsText.{hex_field}

-- ---- bytes of fields

-- printable, and no space
abbrev pub IsClear : ℕ → Type 0
IsClear b = (33 ≤ b) × (b ≤ 126)

abbrev pub AreClear : List ℕ → Type 0
AreClear bytes = All IsClear bytes

pub clear_number : (n : ℕ) → n < 2 ^ 64 → AreClear (decimal n)
clear_number n small = decimal_by_steps (λ _ ds. AreClear ds)
    (λ k few. All-cons IsClear (48 + k) [] (omega arith, omega arith) (All-nil IsClear))
    (λ k ds few are. All-push IsClear ds (48 + k % 10) are (omega arith, omega arith))
    n small

-- the test of a byte, which computes
abbrev pub clear_test : ℕ → Bool
clear_test b = nat_le 33 b && nat_le b 126

by_test : (b : ℕ) → clear_test b ≡ true → IsClear b
by_test b e = let parts = and_parts (nat_le 33 b) (nat_le b 126) e in (leb-true 33 b parts.0, leb-true b 126 parts.1)

pub clear_word : (word : List ℕ) → list_all clear_test word ≡ true → AreClear word
clear_word word e = All-weaker (λ b. clear_test b ≡ true) IsClear by_test word (AllPass-from_list_all clear_test word e)

clear_digit : (d : ℕ) → d < 16 → IsClear (slice_index lower_digits d)
clear_digit d few = clear_word lower_digits refl d 0 (omega arith)

pub clear_hex : (bytes : List ℕ) → All (λ b. b < 256) bytes → AreClear (encode_lower bytes)
unfolding encode_with
clear_hex [] are = All-nil IsClear
clear_hex (b ∷ bytes) are =
    let small = All-head (λ b. b < 256) b bytes are in
    All-cons IsClear (slice_index lower_digits (b / 16)) (slice_index lower_digits (b % 16) ∷ encode_lower bytes) (clear_digit (b / 16) (omega arith))
    (All-cons IsClear (slice_index lower_digits (b % 16)) (encode_lower bytes) (clear_digit (b % 16) (omega arith)) (clear_hex bytes (All-tail (λ b. b < 256) b bytes are)))

pub clear_field : (bytes : List ℕ) → All (λ b. b < 256) bytes → AreClear (hex_field bytes)
clear_field [] are = All-cons IsClear 45 [] (omega arith, omega arith) (All-nil IsClear)
clear_field (b ∷ bytes) are = clear_hex (b ∷ bytes) are

name_byte : (b : ℕ) → is_name_byte b ≡ true → IsClear b
name_byte b e = grind (arith, nat_tests)

pub clear_name : (name : List ℕ) → is_name name ≡ true → AreClear name
clear_name name e =
    let parts = and_parts (nat_le 1 (length name) && nat_le (length name) 32) (list_all is_name_byte name) e in
    All-weaker (λ b. is_name_byte b ≡ true) IsClear name_byte name (AllPass-from_list_all is_name_byte name parts.1)

pub short_name : (name : List ℕ) → is_name name ≡ true → length name ≤ 32
short_name name e =
    let parts = and_parts (nat_le 1 (length name) && nat_le (length name) 32) (list_all is_name_byte name) e in
    leb-true (length name) 32 (and_parts (nat_le 1 (length name)) (nat_le (length name) 32) parts.0).1

-- ---- fields that are read back

pub short_number : (n : ℕ) → n < 2 ^ 64 → length (decimal n) ≤ 20
short_number n small = length-decimal-le 20 n (omega arith) (omega arith) small

hex_bytes : (bytes : List ℕ) → All (λ b. b < 256) bytes → AreHexBytes bytes
hex_bytes bytes are i = elim (cases_lt i (length bytes)) [
  | inl within ↦ are i 0 within
  | inr past ↦ subst (λ (n : ℕ). n < 256) (sym (get_or_past bytes i 0 past)) (omega arith)
]

pub length-hex_field : (bytes : List ℕ) → length (hex_field bytes) ≤ 2 * length bytes + 1
length-hex_field [] = omega arith
length-hex_field (b ∷ bytes) = omega (arith, length-encode_with lower_digits (b ∷ bytes))

of_many : (field bytes : List ℕ) → 2 ≤ length field → decode_of field ≡ Ok bytes → bytes_of_hex field ≡ Some bytes
unfolding bytes_of_hex
of_many field bytes many decoded = by_tests (bytes_eq field (codes "-")) refl (length field == 0) refl
  where
    by_tests : (a : Bool) → bytes_eq field (codes "-") ≡ a → (b : Bool) → (length field == 0) ≡ b → (if a then Some [] else if b then None else result_ok (decode_of field)) ≡ Some bytes
    by_tests true ea b eb = absurd (let one : length field ≡ 1 = ap length ((bytes_eq-Decides field (codes "-")).0 ea) in omega arith)
    by_tests false ea true eb = absurd (grind (arith, nat_tests))
    by_tests false ea false eb = ap result_ok decoded

pub field_again : (bytes : List ℕ) → All (λ b. b < 256) bytes → bytes_of_hex (hex_field bytes) ≡ Some bytes
unfolding bytes_of_hex
field_again [] are = refl
field_again (b ∷ bytes) are =
    of_many (encode_lower (b ∷ bytes)) (b ∷ bytes) (omega (arith, length-encode_with lower_digits (b ∷ bytes))) (decode_of-encode_lower (b ∷ bytes) (hex_bytes (b ∷ bytes) are))
