-- Texts in columns.
use Rattle.std.specs.Prelude.{ℕ, ◌-◌, List, ◌++◌, length, replicate}

-- a text at the right of so many places; a longer one stands as it is
abbrev pub right_in : ℕ → List ℕ → List ℕ
right_in places text = replicate (places - length text) 32 ++ text
