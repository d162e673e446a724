pub mod Run
pub mod Turns
pub mod Calls
pub mod Held
