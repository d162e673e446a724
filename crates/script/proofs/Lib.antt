mod FieldLemmas
pub mod LineLemmas
pub mod NumberLemmas
mod SayingLemmas
pub mod AcceptanceLemmas
pub mod TableLemmas
pub mod SaidLemmas
pub mod TellingLemmas
