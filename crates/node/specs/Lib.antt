pub mod Agreement
pub mod Nodes
pub mod Requests
pub mod Crew
pub mod Options
