pub mod Found
pub mod Gone
pub mod View
