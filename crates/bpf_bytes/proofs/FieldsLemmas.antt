-- A slot's bytes and its fields give each other back.
use Rattle.std.proofs.Common.{◌≡◌, ℕ, ◌+◌, ◌*◌, ◌/◌, ◌%◌, ◌<◌, List, [], ◌∷◌, ◌++◌, get_or, refl, ap, ◌∙◌, arith}
use Rattle.std.specs.Int.{w16, w32, cast_signed, cast_unsigned}
use Rattle.std.proofs.lemmas.Int.{of_z-to_z}
use Rattle.byteorder.specs.Endian.{little_bytes}
use Rattle.bpf_bytes.specs.Fields.{bytes_of, fields_of_bytes}

abbrev pub IsBytes : List ℕ → Type 0
IsBytes bytes = (i : ℕ) → get_or bytes i 0 < 256

-- two bytes that spell a number are its two bytes
two_bytes : (a b : ℕ) → a < 256 → b < 256 → little_bytes 2 (cast_unsigned w16 (cast_signed w16 (a + 256 * (b + 256 * 0)))) ≡ a ∷ b ∷ []
two_bytes a b p q =
    let same = of_z-to_z w16 (a + 256 * (b + 256 * 0)) (omega arith) in
    let low : (a + 256 * (b + 256 * 0)) % 256 ≡ a = omega arith in
    let high : (a + 256 * (b + 256 * 0)) / 256 % 256 ≡ b = omega arith in
    rw (same, low, high) refl

four_bytes : (a b c d : ℕ) → a < 256 → b < 256 → c < 256 → d < 256
    → little_bytes 4 (cast_unsigned w32 (cast_signed w32 (a + 256 * (b + 256 * (c + 256 * (d + 256 * 0)))))) ≡ a ∷ b ∷ c ∷ d ∷ []
four_bytes a b c d p q r s =
    let same = of_z-to_z w32 (a + 256 * (b + 256 * (c + 256 * (d + 256 * 0)))) (omega arith) in
    let e0 : (a + 256 * (b + 256 * (c + 256 * (d + 256 * 0)))) % 256 ≡ a = omega arith in
    let e1 : (a + 256 * (b + 256 * (c + 256 * (d + 256 * 0)))) / 256 % 256 ≡ b = omega arith in
    let e2 : (a + 256 * (b + 256 * (c + 256 * (d + 256 * 0)))) / 65536 % 256 ≡ c = omega arith in
    let e3 : (a + 256 * (b + 256 * (c + 256 * (d + 256 * 0)))) / 16777216 % 256 ≡ d = omega arith in
    rw (same, e0, e1, e2, e3) refl

-- bytes that are read as fields are the bytes of those fields
pub bytes_of-fields_of_bytes : (a b c d e f g h : ℕ) → a < 256 → b < 256 → c < 256 → d < 256 → e < 256 → f < 256 → g < 256 → h < 256
    → bytes_of (fields_of_bytes (a ∷ b ∷ c ∷ d ∷ e ∷ f ∷ g ∷ h ∷ [])) ≡ a ∷ b ∷ c ∷ d ∷ e ∷ f ∷ g ∷ h ∷ []
bytes_of-fields_of_bytes a b c d e f g h pa pb pc pd pe pf pg ph =
    let registers : b % 16 + 16 * (b / 16) ≡ b = omega arith in
    let spell : ℕ → List ℕ → List ℕ → List ℕ = λ r offset immediate. (a ∷ r ∷ []) ++ offset ++ immediate in
    ap (λ (r : ℕ). spell r (little_bytes 2 (cast_unsigned w16 (cast_signed w16 (c + 256 * (d + 256 * 0))))) (little_bytes 4 (cast_unsigned w32 (cast_signed w32 (e + 256 * (f + 256 * (g + 256 * (h + 256 * 0)))))))) registers
    ∙ ap (λ (o : List ℕ). spell b o (little_bytes 4 (cast_unsigned w32 (cast_signed w32 (e + 256 * (f + 256 * (g + 256 * (h + 256 * 0)))))))) (two_bytes c d pc pd)
    ∙ ap (λ (m : List ℕ). spell b (c ∷ d ∷ []) m) (four_bytes e f g h pe pf pg ph)
