-- Certifications in blocks.
use Rattle.std.specs.Prelude.{◌≡◌, ℕ, List, [], ◌∷◌, ◌++◌, length}
use Rattle.certify.specs.declared.certification.Certification.{Certification}

-- those of all blocks
abbrev pub all_of : List (List Certification) → List Certification
all_of [] = []
all_of (block ∷ blocks) = block ++ all_of blocks

-- each block has as many as one may have
abbrev pub AreFull : List (List Certification) → Type 0
AreFull [] = Unit {0}
AreFull (block ∷ blocks) = (length block ≡ 1024) × AreFull blocks

-- all of them, and for how many more there is room
pub record Certifications : Type 0 where
  pub items : List Certification
  pub room : ℕ
