pub mod Checking
pub mod Failures
pub mod Listing
pub mod Number
pub mod Source
