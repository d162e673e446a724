pub mod Begin
pub mod Begun
pub mod Commits
pub mod Locked
pub mod Ordered
