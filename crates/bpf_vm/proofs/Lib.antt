mod Stepping
mod Following
mod Advancing
pub mod CallLemmas
pub mod PartLemmas
