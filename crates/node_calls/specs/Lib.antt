pub mod Answer
pub mod Asked
pub mod Ran
pub mod Running
