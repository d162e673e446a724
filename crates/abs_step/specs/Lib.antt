pub mod Result
pub mod Cause
pub mod Number
