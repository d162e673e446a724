pub mod FieldsLemmas
pub mod SpellingLemmas
pub mod DecodeLemmas
pub mod JumpLemmas
pub mod ProgramLemmas
pub mod AgainLemmas
pub mod ProgramAgain
pub mod ProgramWhole
