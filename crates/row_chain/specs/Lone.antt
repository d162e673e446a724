-- The only version of a key, or none yet.
use Rattle.row_chain.specs.declared.lone.TheConstants.{NARROW_WIDTH}
use Rattle.std.specs.Prelude.{◌≡◌, ◌≤◌, nat_le, Bool, true, not, ◌&&◌, List, [], ◌∷◌, take, Some, None, if◌then◌else◌}
use Rattle.row_chain.specs.declared.lone.Lone.{Lone}
use Rattle.row_chain.specs.Version.{Version, ChainState}

-- a version where one is written
abbrev pub versions_of_lone : Lone → List Version
versions_of_lone lone =
    if lone.written then record { position = lone.position; row = if lone.present then Some (take lone.width lone.row) else None } ∷ []
    else []

-- a version is written only where rows are narrow
abbrev pub IsFit : Lone → Type 0
IsFit lone = lone.written ≡ true → lone.width ≤ NARROW_WIDTH

-- whether one more version can be written here
abbrev pub has_place : Lone → Bool
has_place lone = not lone.written && nat_le lone.width NARROW_WIDTH

-- the chain of a key whose versions lie in no run
abbrev pub chain_of_lone : Lone → ChainState
chain_of_lone lone = record {
  versions = versions_of_lone lone;
  width = lone.width;
  places = if has_place lone then 1 else 0;
  bytes = lone.width;
}
