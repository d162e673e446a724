-- A printable line is a text.
use Rattle.std.proofs.Common.{◌≡◌, ℕ, ◌<◌, true, List, arith}
use Rattle.std.specs.Prelude.{nat_le}
use Rattle.std.specs.List.{list_all}
use Rattle.std.specs.Str.{IsUtf8}
use Rattle.std.proofs.lemmas.Bool.{leb-true, and_parts}
use Rattle.std.proofs.lemmas.List.Elements.{All-weaker}
use Rattle.std.proofs.lemmas.List.Sums.{AllPass-from_list_all}
use Rattle.std.proofs.lemmas.Str.{IsUtf8-from_ascii}
use Rattle.std.proofs.lemmas.Str.Ascii.{IsAscii-from_all}
use Rattle.script.specs.Text.{is_printable}

below : (b : ℕ) → is_printable b ≡ true → b < 128
below b e = omega (arith, leb-true b 0x7e (and_parts (nat_le 0x20 b) (nat_le b 0x7e) e).1)

pub IsUtf8-printable : (line : List ℕ) → list_all is_printable line ≡ true → IsUtf8 line
IsUtf8-printable line all =
    IsUtf8-from_ascii line (IsAscii-from_all line (All-weaker (λ b. is_printable b ≡ true) (λ b. b < 128) below line (AllPass-from_list_all is_printable line all)))
