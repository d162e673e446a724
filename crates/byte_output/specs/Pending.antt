-- What becomes of the bytes that are given to an output in front of which a page is kept.
use Rattle.std.specs.Prelude.{◌≡◌, ℕ, List, ◌++◌, Option, Result, MatchResult}
use Rattle.std.specs.Borrow.{MutBor}
use Rattle.std.specs.Io.KnownBytes.{Appends}
use Rattle.byte_output.specs.Writes.{AppendsBeginning}
use Rattle.byte_output.specs.declared.paged.PagedOutput.{PagedOutput}

-- the output behind the page
abbrev pub output_of : {W : Type 0} → PagedOutput W → MutBor W
output_of p = p.output

-- what was given and hasn't left
abbrev pub pending_of : {W : Type 0} → PagedOutput W → List ℕ
pending_of p = p.pending.items

-- what was pending and then the text: a beginning of it left, and the rest is pending
abbrev pub Passes : {W : Type 0} → (W → Option (List ℕ)) → PagedOutput W → PagedOutput W → List ℕ → Type 0
Passes contents old new text =
    (left : List ℕ) × (pending_of old ++ text ≡ left ++ pending_of new) × Appends (contents (output_of old).now) (contents (output_of new).now) left

-- at `Ok` nothing is lost, at `Err` a beginning of what was pending and then the text has left
abbrev pub Takes : {W T E : Type 0} → (W → Option (List ℕ)) → PagedOutput W → PagedOutput W → Result T E → List ℕ → Type 0
Takes contents old new result text =
    MatchResult result (λ _. Passes contents old new text)
    (λ _. AppendsBeginning (contents (output_of old).now) (contents (output_of new).now) (pending_of old ++ text))
