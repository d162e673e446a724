pub mod FlowLemmas
pub mod LongestPath
