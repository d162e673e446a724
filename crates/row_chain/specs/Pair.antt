-- Two versions of a key, or one and room for another, where rows are narrow.
use Rattle.row_chain.specs.declared.lone.TheConstants.{NARROW_WIDTH}
use Rattle.std.specs.Prelude.{◌≡◌, ◌≤◌, true, List, ◌++◌, if◌then◌else◌}
use Rattle.row_chain.specs.declared.pair.Pair.{Pair}
use Rattle.row_chain.specs.Version.{Version, ChainState}
use Rattle.row_chain.specs.Lone.{versions_of_lone, has_place}

abbrev pub versions_of_pair : Pair → List Version
versions_of_pair pair = versions_of_lone pair.first ++ versions_of_lone pair.second

-- the first is written, and both are of narrow rows of one width
pub record IsPair (pair : Pair) : Type 0 where
  pub written : pair.first.written ≡ true
  pub narrow : pair.first.width ≤ NARROW_WIDTH
  pub width : pair.second.width ≡ pair.first.width

abbrev pub chain_of_pair : Pair → ChainState
chain_of_pair pair = record {
  versions = versions_of_pair pair;
  width = pair.first.width;
  places = if has_place pair.second then 1 else 0;
  bytes = pair.first.width;
}
