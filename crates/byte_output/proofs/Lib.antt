pub mod WritesLemmas
pub mod PendingLemmas
mod BehindLemmas
pub mod TakenLemmas
