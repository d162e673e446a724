-- What a read of a line takes of an input, where its bytes are known.
use Rattle.std.specs.Prelude.{◌≡◌, ◌≢◌, ℕ, ◌+◌, ◌<◌, ◌≤◌, List, [], ◌∷◌, ◌++◌, length, All, Option, Some}
use Rattle.script.specs.Text.{lines_of, max_line}
use Rattle.script.specs.declared.input.Piece.{Piece}
use Rattle.script.specs.declared.input.Piece.TheVariants as piece
use Rattle.script.specs.declared.input.Next.{Next}
use Rattle.script.specs.declared.input.Next.TheVariants as next

abbrev pub HasNoLf : List ℕ → Type 0
HasNoLf bytes = All (λ b. b ≢ 10) bytes

-- what one look at the input did: it had these bytes and has those left, and the line grew
abbrev pub IsPiece : List ℕ → Option (List ℕ) → List ℕ → List ℕ → Piece → Type 0
IsPiece bytes left before after piece.More =
    (p rest : List ℕ) × (bytes ≡ p ++ rest) × (left ≡ Some rest) × HasNoLf p × (after ≡ before ++ p)
IsPiece bytes left before after piece.Ended =
    (p rest : List ℕ) × (bytes ≡ p ++ (10 ∷ rest)) × (left ≡ Some rest) × HasNoLf p × (after ≡ before ++ p)
IsPiece bytes left before after piece.AtEnd = (bytes ≡ []) × (left ≡ Some []) × (after ≡ before)
IsPiece bytes left before after piece.TooLong = (p rest : List ℕ) × (bytes ≡ p ++ rest) × HasNoLf p × (max_line < length before + length p)

-- the first of the lines, no longer than a line may be, and what is left behind this line; no line at the end; or a
-- first line that is too long
abbrev pub IsNext : List ℕ → Option (List ℕ) → List ℕ → Next → Type 0
IsNext bytes left line next.Line =
    (rest : List ℕ) × (left ≡ Some rest) × (lines_of bytes ≡ line ∷ lines_of rest) × (length line ≤ max_line)
IsNext bytes left line next.AtEnd = lines_of bytes ≡ []
IsNext bytes left line next.TooLong = (long : List ℕ) × (more : List (List ℕ)) × (lines_of bytes ≡ long ∷ more) × (max_line < length long)
