pub mod Range
pub mod Table
pub mod Width
