pub mod Kept
pub mod Inside
pub mod One
pub mod Least
