mod Laid
mod LaidLemmas
pub mod RunLemmas
mod VerdictLemmas
mod HistoryLemmas
pub mod CallLemmas
pub mod GrowthLemmas
mod MeaningLemmas
pub mod RepetitionLemmas
mod AdditionLemmas
pub mod EntryLemmas
pub mod CarryLemmas
mod InstalledLemmas
pub mod NextLemmas
mod OpenRequestLemmas
pub mod AdmissionLemmas
