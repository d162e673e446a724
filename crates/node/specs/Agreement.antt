-- Of each two lists one begins the other.
use Rattle.std.specs.Prelude.{◌≡◌, ℕ, ◌⊎◌, List, Some, slice_get}
use mathlib.Core.List.{IsPrefix}

abbrev pub OneBegins : {X : Type 0} → List X → List X → Type 0
OneBegins xs ys = IsPrefix xs ys ⊎ IsPrefix ys xs

-- of the lists of each two
abbrev pub AgreeBy : {X Y : Type 0} → (Y → List X) → List Y → Type 0
AgreeBy {X} {Y} list_of all = (i j : ℕ) (x y : Y) → slice_get all i ≡ Some x → slice_get all j ≡ Some y → OneBegins (list_of x) (list_of y)
