-- What two rows of cells with their values, known at any times, have to do with one another.
use Rattle.std.specs.Prelude.{◌≡◌, ◌⊎◌, ℕ, List, [], ◌∷◌}

-- the row has no other value for this cell
abbrev pub AgreesOn : {X : Type 0} → ℕ → X → List (ℕ × X) → Type 0
AgreesOn cell x [] = Unit {0}
AgreesOn cell x (k ∷ ks) = (k.0 ≡ cell → x ≡ k.1) × AgreesOn cell x ks

-- a cell that stands in both rows has one value
abbrev pub AgreeAll : {X : Type 0} → List (ℕ × X) → List (ℕ × X) → Type 0
AgreeAll [] others = Unit {0}
AgreeAll (k ∷ ks) others = AgreesOn k.0 k.1 others × AgreeAll ks others

-- the row has this value for this cell
abbrev pub Has : {X : Type 0} → List (ℕ × X) → ℕ → X → Type 0
Has [] cell x = ⊥
Has (k ∷ ks) cell x = ((k.0 ≡ cell) × (k.1 ≡ x)) ⊎ Has ks cell x
