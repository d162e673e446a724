-- The lines that are given to a site, and what a read takes of an input where its bytes are known.
use Rattle.std.specs.Prelude.{◌≡◌, ◌≢◌, ℕ, Bool, true, ◌+◌, ◌==◌, ◌<◌, ◌≤◌, if◌then◌else◌, List, [], ◌∷◌, ◌++◌, length, take, Option, Some}
use Rattle.script.specs.Reading.{HasNoLf}
use Rattle.site_service.specs.declared.input.TheConstants.{MAX_SITE_LINE}
use Rattle.site_service.specs.declared.input.Piece.{Piece}
use Rattle.site_service.specs.declared.input.Piece.TheVariants as piece
use Rattle.site_service.specs.declared.input.NextLine.{NextLine}
use Rattle.site_service.specs.declared.input.NextLine.TheVariants as next

-- a byte in front of the first of some lines, where there is one
abbrev pub in_front : ℕ → List (List ℕ) → List (List ℕ)
in_front b [] = []
in_front b (line ∷ lines) = (b ∷ line) ∷ lines

-- what stands before each LF. What stands behind the last LF is no line
abbrev pub whole_lines : List ℕ → List (List ℕ)
whole_lines [] = []
whole_lines (b ∷ bytes) = if b == 10 then [] ∷ whole_lines bytes else in_front b (whole_lines bytes)

-- of a line no more is kept than tells that it is too long
abbrev pub kept_of : List ℕ → List ℕ
kept_of line = take (MAX_SITE_LINE + 1) line

-- these bytes have a line, where a line is said to follow
abbrev pub HasLineWhere : Bool → List ℕ → Type 0
HasLineWhere is_followed bytes = is_followed ≡ true → whole_lines bytes ≢ []

-- what one look at the input did: it had these bytes and has those left
abbrev pub IsPiece : List ℕ → Option (List ℕ) → List ℕ → List ℕ → Piece → Type 0
IsPiece bytes left before after piece.More =
    (p rest : List ℕ) × (bytes ≡ p ++ rest) × (left ≡ Some rest) × HasNoLf p × (after ≡ kept_of (before ++ p))
IsPiece bytes left before after (piece.Ended is_followed) =
    (p rest : List ℕ) × (bytes ≡ p ++ (10 ∷ rest)) × (left ≡ Some rest) × HasNoLf p × (after ≡ kept_of (before ++ p))
    × HasLineWhere is_followed rest
IsPiece bytes left before after piece.AtEnd = bytes ≡ []

-- the first of the lines, and what is left, which has a line where is_followed is true; or the first line is too long; or
-- there is no line
abbrev pub IsNextLine : List ℕ → Option (List ℕ) → List ℕ → NextLine → Type 0
IsNextLine bytes left line (next.Line is_followed) =
    (rest : List ℕ) × (left ≡ Some rest) × (whole_lines bytes ≡ line ∷ whole_lines rest) × (length line ≤ MAX_SITE_LINE)
    × HasLineWhere is_followed rest
IsNextLine bytes left line next.TooLong =
    (long rest : List ℕ) × (left ≡ Some rest) × (whole_lines bytes ≡ long ∷ whole_lines rest) × (MAX_SITE_LINE < length long)
IsNextLine bytes left line next.AtEnd = whole_lines bytes ≡ []
