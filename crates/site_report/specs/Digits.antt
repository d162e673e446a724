-- Bytes that are appended to a sink in hex. No public clause speaks of it.
use Rattle.std.proofs.Common.{◌≡◌, ℕ, List, [], ◌++◌, ◌∙◌, refl, subst, sym}
use Rattle.hex.specs.Hex.{encode_with, encode_lower, lower_digits}
use Rattle.report.proofs.PrintingLemmas.{encode_append}
use Rattle.site_report.specs.declared.hex_digits.HexSink.{HexSink}

-- it is the same sink behind, to which the digits of these bytes were appended
abbrev pub HasInHex : {S : Type 0} → (S → S → List ℕ → Type 0) → HexSink S → HexSink S → List ℕ → Type 0
HasInHex appends old new bytes =
    (new.digits.ghost_name ≡ old.digits.ghost_name) × appends old.digits.now new.digits.now (encode_lower bytes)

pub nothing_in_hex : {S : Type 0} (appends : S → S → List ℕ → Type 0) → ((a : S) → appends a a [])
    → (a : HexSink S) → HasInHex appends a a []
unfolding encode_with
nothing_in_hex appends nothing a = (refl, nothing a.digits.now)

pub together_in_hex : {S : Type 0} (appends : S → S → List ℕ → Type 0)
    → ((a b c : S) (front back : List ℕ) → appends a b front → appends b c back → appends a c (front ++ back))
    → (a b c : HexSink S) (front back : List ℕ) → HasInHex appends a b front → HasInHex appends b c back
    → HasInHex appends a c (front ++ back)
together_in_hex appends together a b c front back (same, first) (same_again, then) = (
  same_again ∙ same,
  subst (appends a.digits.now c.digits.now) (sym (encode_append lower_digits front back))
      (together a.digits.now b.digits.now c.digits.now (encode_lower front) (encode_lower back) first then),
)
