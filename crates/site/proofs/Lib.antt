pub mod TakeLemmas
pub mod RunLemmas
pub mod BytesLemmas
pub mod SiteLemmas
pub mod AlikeLemmas
pub mod SinceLemmas
pub mod DeliveryLemmas
pub mod CallLemmas
mod LastLemmas
