-- What is given to an output in front of which a page is kept, while a line is done.
use Rattle.std.specs.Prelude.{◌≡◌, ℕ, List, ◌++◌, Option, Result, Ok, Err, MatchResult}
use Rattle.std.specs.Io.KnownBytes.{Appends}
use Rattle.byte_output.specs.declared.paged.PagedOutput.{PagedOutput}
use Rattle.byte_output.specs.Pending.{output_of, pending_of, Passes}
use Rattle.log_model.specs.Log.{Setting}
use Rattle.dsm_model.specs.World.{World}
use Rattle.script.specs.Script.{ScriptAction}
use Rattle.script_replay.specs.Actions.{Does}

-- what was pending and then a beginning of the text: some of that left, and the rest is pending
abbrev pub PassesBeginning : {W : Type 0} → (W → Option (List ℕ)) → PagedOutput W → PagedOutput W → List ℕ → Type 0
PassesBeginning contents old new text = (front rest : List ℕ) × (pending_of old ++ text ≡ (front ++ pending_of new) ++ rest)
    × Appends (contents (output_of old).now) (contents (output_of new).now) front

-- at `Ok` the whole text, at `Err` a beginning of it
abbrev pub Gives : {W T E : Type 0} → (W → Option (List ℕ)) → PagedOutput W → PagedOutput W → Result T E → List ℕ → Type 0
Gives contents old new result text = MatchResult result (λ _. Passes contents old new text) (λ _. PassesBeginning contents old new text)

-- at `Ok` a text that may be printed was given, with the world behind it; at `Err` a beginning of such a text
abbrev pub HasPrinted : {W T E : Type 0} → (W → Option (List ℕ)) → (List ℕ → World → Type 0) → PagedOutput W → PagedOutput W
    → Result T E → World → Type 0
HasPrinted contents MayPrint old new (Ok _) after = (text : List ℕ) × MayPrint text after × Passes contents old new text
HasPrinted contents MayPrint old new (Err _) now =
    (text : List ℕ) × (after : World) × MayPrint text after × PassesBeginning contents old new text

-- the line was done
abbrev pub HasDone : {W T E : Type 0} → (W → Option (List ℕ)) → Setting → World → ScriptAction → PagedOutput W → PagedOutput W
    → Result T E → World → Type 0
HasDone contents w before c old new result now = HasPrinted contents (Does w before c) old new result now
