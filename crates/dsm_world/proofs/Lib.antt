mod RunLemmas
pub mod RowLemmas
pub mod Numbered
mod StepLemmas
mod EntryLemmas
pub mod ReplicaLemmas
pub mod CallLemmas
mod BeginLemmas
mod FieldLemmas
mod AddLemmas
