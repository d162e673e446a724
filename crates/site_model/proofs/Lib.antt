pub mod StandingLemmas
pub mod OrderLemmas
pub mod FitLemmas
