pub mod Runner
pub mod Listed
pub mod State
