-- Lines by number, one after another.
use Rattle.std.proofs.Common.{◌≡◌, ℕ, ◌+◌, List, [], ◌∷◌, ◌++◌, length, sym, ap, ◌∙◌, append_assoc, arith}
use Rattle.std.proofs.lemmas.List.{append-nil}
use Rattle.report.specs.declared.printed.Line.{Line}
use Rattle.report.specs.Lines.{line_text}
use Rattle.script_run.specs.Printed.{numbered_text}

-- what was given, and then the lines of the rest, is all that is to be given, of these items; so many stand before the rest
abbrev pub GivenSoFar : {X : Type 0} → (ℕ → X → Line) → List ℕ → List ℕ → ℕ → List X → List X → Type 0
GivenSoFar line_of start given before rest items =
    (given ++ numbered_text line_of before rest ≡ start ++ numbered_text line_of 0 items) × (before + length rest ≡ length items)

-- the next item's line was given
pub one_more : {X : Type 0} (line_of : ℕ → X → Line) (before : ℕ) (item : X) (rest items : List X) (old new all : List ℕ) → rest ≡ item ∷ items → new ≡ old ++ line_text (line_of (before + 1) item) → old ++ numbered_text line_of before rest ≡ all
    → new ++ numbered_text line_of (before + 1) items ≡ all
unfolding numbered_text
one_more {X = X} line_of before item rest items old new all first given so_far =
    ap (λ (text : List ℕ). text ++ numbered_text line_of (before + 1) items) given
    ∙ append_assoc old (line_text (line_of (before + 1) item)) (numbered_text line_of (before + 1) items)
    ∙ ap (λ (xs : List X). old ++ numbered_text line_of before xs) (sym first)
    ∙ so_far

-- no item is left
pub none_left : {X : Type 0} (line_of : ℕ → X → Line) (before : ℕ) (rest : List X) (given all : List ℕ) → length rest ≡ 0 → given ++ numbered_text line_of before rest ≡ all → given ≡ all
unfolding numbered_text
none_left line_of before [] given all none so_far = sym (append-nil given) ∙ so_far
none_left line_of before (item ∷ items) given all none so_far = absurd (omega arith)
