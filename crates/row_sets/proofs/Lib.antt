pub mod WriteLemmas
pub mod OrderLemmas
pub mod LeftLemmas
mod FirstRowsLemmas
mod FlatRowsLemmas
