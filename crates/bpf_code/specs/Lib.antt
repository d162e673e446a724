pub mod Register
pub mod Sizes
pub mod Program
