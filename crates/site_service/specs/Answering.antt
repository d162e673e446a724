-- What a site answers to the lines of its input, one after another.
use Rattle.std.specs.Prelude.{◌≡◌, ℕ, ◌+◌, List, [], ◌∷◌, ◌++◌, length, Option, Some, None, Result, Ok, Err}
use Rattle.std.specs.List.{fold}
use Rattle.std.specs.Io.KnownBytes.{Appends}
use Rattle.byte_output.specs.Writes.{AppendsBeginning}
use Rattle.byte_output.specs.declared.paged.PagedOutput.{PagedOutput}
use Rattle.byte_output.specs.Pending.{output_of}
use Rattle.byte_output.specs.Taken.{HasPassed, HasTaken}
use Rattle.script.specs.declared.cause.FaultCause.TheVariants.{NoMemory}
use Rattle.script.specs.declared.stop.Stop.{Stop}
use Rattle.script.specs.declared.stop.Stop.TheVariants.{Fault, Input, Output}
use Rattle.site_service.specs.InputLines.{whole_lines}
use Rattle.site_model.specs.Standing.{SiteSetting}
use Rattle.site_model.specs.Order.{Order}
use Rattle.site.specs.Replica.{SiteReplica, StandsForOrder}
use Rattle.site_service.specs.Lines.{line_says}
use Rattle.site_service.specs.declared.lines.Progress.{Progress}
use Rattle.site_service.specs.LineAnswers.{IsLineAnswer, order_behind}

-- the order behind these lines: the byte strings that were given in them
abbrev pub order_after : SiteSetting → Order → List (List ℕ) → Order
order_after s order lines = fold (λ so_far line. order_behind s so_far (line_says line)) order lines

-- what is answered to lines behind an order, one after another
unfoldable pub AreAnswers : SiteSetting → Order → List (List ℕ) → List ℕ → Type 0
AreAnswers s order [] text = text ≡ []
AreAnswers s order (line ∷ lines) text =
    (here rest : List ℕ) × IsLineAnswer s order (line_says line) here × (text ≡ here ++ rest)
    × AreAnswers s (order_behind s order (line_says line)) lines rest

-- to all of the lines of an input of these bytes
abbrev pub AreAllAnswers : SiteSetting → List ℕ → List ℕ → Type 0
AreAllAnswers s bytes text = AreAnswers s [] (whole_lines bytes) text

-- a text was put out: the answers, behind an order, to the first lines of these bytes, count in number
pub record AnswersSome (s : SiteSetting) (order : Order) (bytes : List ℕ) (count : ℕ) (IsPutOut : List ℕ → Type 0) : Type 0 where
  pub lines : List (List ℕ)
  pub others : List (List ℕ)
  pub split : whole_lines bytes ≡ lines ++ others
  pub counted : length lines ≡ count
  pub text : List ℕ
  pub answers : AreAnswers s order lines text
  pub put_out : IsPutOut text

-- ---- what is written

-- the answers to the first of the lines, so many, were written whole, and no more
abbrev pub AnswersFirst : SiteSetting → List ℕ → Option (List ℕ) → Option (List ℕ) → ℕ → Type 0
AnswersFirst s bytes old new count = AnswersSome s [] bytes count (Appends old new)

-- where memory was wanting at a line, those before it were answered
abbrev pub LeavesAnswersUpTo : SiteSetting → List ℕ → Option (List ℕ) → Option (List ℕ) → Stop → Type 0
LeavesAnswersUpTo s bytes old new (Fault fault) =
    (fault.cause ≡ NoMemory) × (before : ℕ) × (before + 1 ≡ fault.line) × AnswersFirst s bytes old new before
LeavesAnswersUpTo s bytes old new (Input error) = (count : ℕ) × AnswersFirst s bytes old new count
LeavesAnswersUpTo s bytes old new (Output error) =
    (text : List ℕ) × AreAllAnswers s bytes text × AppendsBeginning old new text

abbrev pub LeavesAnswers : {T : Type 0} → SiteSetting → List ℕ → Option (List ℕ) → Option (List ℕ) → Result T Stop → Type 0
LeavesAnswers s bytes old new (Ok _) = (text : List ℕ) × AreAllAnswers s bytes text × Appends old new text
LeavesAnswers s bytes old new (Err stop) = LeavesAnswersUpTo s bytes old new stop

-- ---- the next lines

-- lines from number first on, or none, were answered, and their answers put out. The site stands behind them; number is
-- that of the next line, and left holds the rest
pub record ComesTo (s : SiteSetting) (order : Order) (bytes : List ℕ) (left : Option (List ℕ)) (first : ℕ) (IsPutOut : List ℕ → Type 0)
    (site : SiteReplica) (number : ℕ) : Type 0 where
  pub lines : List (List ℕ)
  pub rest : List ℕ
  pub known : left ≡ Some rest
  pub split : whole_lines bytes ≡ lines ++ whole_lines rest
  pub counted : length lines + first ≡ number
  pub text : List ℕ
  pub answers : AreAnswers s order lines text
  pub put_out : IsPutOut text
  pub stands : StandsForOrder site (order_after s order lines)

-- what lines come to from number first on. By the cases: the site goes on; all lines were answered; memory was wanting at
-- a line, and those before are answered; the input failed behind answered lines; the output failed, and a beginning of
-- the answers was put out
abbrev pub GivesLines : {A : Type 0} → SiteSetting → Order → List ℕ → Option (List ℕ) → ℕ → (List ℕ → Type 0) → (List ℕ → Type 0)
    → Result (Option (Progress A)) Stop → Type 0
GivesLines s order bytes left first IsPutOut IsBegun (Ok (Some progress)) =
    ComesTo s order bytes left first IsPutOut progress.site progress.number
GivesLines s order bytes left first IsPutOut IsBegun (Ok None) =
    (text : List ℕ) × AreAnswers s order (whole_lines bytes) text × IsPutOut text
GivesLines s order bytes left first IsPutOut IsBegun (Err (Fault fault)) =
    (fault.cause ≡ NoMemory) × (before : ℕ) × (before + first ≡ fault.line) × AnswersSome s order bytes before IsPutOut
GivesLines s order bytes left first IsPutOut IsBegun (Err (Input error)) =
    (count : ℕ) × AnswersSome s order bytes count IsPutOut
GivesLines s order bytes left first IsPutOut IsBegun (Err (Output error)) =
    (text : List ℕ) × AreAnswers s order (whole_lines bytes) text × IsBegun text

-- the answers to these lines have left
abbrev pub LeavesLines : {A : Type 0} → SiteSetting → Order → List ℕ → Option (List ℕ) → ℕ → Option (List ℕ) → Option (List ℕ)
    → Result (Option (Progress A)) Stop → Type 0
LeavesLines s order bytes left first old new result =
    GivesLines s order bytes left first (Appends old new) (AppendsBeginning old new) result

-- a text was appended to pages in front of the same output; failed is that output's first error
abbrev pub IsAppended : {W E : Type 0} → (W → Option (List ℕ)) → PagedOutput W → PagedOutput W → Option E → List ℕ → Type 0
IsAppended contents old new failed text = ((output_of new).ghost_name ≡ (output_of old).ghost_name)
    × ((start : Option (List ℕ)) (before : List ℕ) → HasPassed contents start before old → HasTaken contents start (before ++ text) new failed)

-- no text: where answers are appended, nothing stops for the output
abbrev pub IsNoText : List ℕ → Type 0
IsNoText text = ⊥
