pub mod Added
pub mod Kinds
pub mod Replicas
pub mod Replies
pub mod Scanned
