pub mod Writes
pub mod Pending
pub mod Column
pub mod Sink
pub mod Failure
pub mod Taken
