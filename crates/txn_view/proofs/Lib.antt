pub mod SeenLemmas
pub mod ViewLemmas
