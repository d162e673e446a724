pub mod State
pub mod Memory
pub mod Helpers
pub mod Step
pub mod Run
pub mod Path
pub mod Agree
pub mod Fit
