mod BitLemmas
mod LaneLemmas
pub mod LawLemmas
mod SignatureLemmas
