-- What is said where a stream fails.
use Rattle.std.specs.Prelude.{ℕ, List, ◌++◌, codes, Option}
use Rattle.byte_output.specs.Writes.{AppendsBeginning}

-- as `dsmdb: the message`
abbrev pub failure_line : List ℕ → List ℕ
failure_line message = codes "dsmdb: " ++ (message ++ codes "\n")

-- the line of what a stream says, or a beginning of it
abbrev pub SaysStream : Option (List ℕ) → Option (List ℕ) → Type 0
SaysStream old new = (message : List ℕ) × AppendsBeginning old new (failure_line message)
