pub mod Flow
pub mod Procedure
pub mod Refusal
