pub mod RunnerLemmas
pub mod MemoryLemmas
pub mod ListedLemmas
pub mod CallLemmas
