pub mod RequestLemmas
mod NextLemmas
