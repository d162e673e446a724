mod BeginLemmas
mod CommitLemmas
pub mod LockedLemmas
pub mod EntryLemmas
