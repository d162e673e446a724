pub mod Sessions
pub mod Standing
pub mod Order
pub mod Answer
pub mod Fit
pub mod Own
pub mod Next
