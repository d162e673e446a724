-- The chain of a key: inside its entry, in a pair or in a run.
use Rattle.row_chain.specs.declared.chain.Layout.{Layout}
use Rattle.row_chain.specs.declared.chain.Layout.TheVariants.{Inside, Two, Many}
use Rattle.row_chain.specs.Version.{ChainState}
use Rattle.row_chain.specs.Lone.{chain_of_lone, IsFit}
use Rattle.row_chain.specs.Pair.{chain_of_pair, IsPair}

abbrev pub chain_of : {A : Type 0} → Layout A → ChainState
chain_of (Inside lone) = chain_of_lone lone
chain_of (Two pair) = chain_of_pair pair.value
chain_of (Many run) = run.value

-- what lies inside or in a pair is fit for that
abbrev pub IsLaidOut : {A : Type 0} → Layout A → Type 0
IsLaidOut (Inside lone) = IsFit lone
IsLaidOut (Two pair) = IsPair pair.value
IsLaidOut (Many run) = Unit {0}
