pub mod Plan
pub mod Fault
