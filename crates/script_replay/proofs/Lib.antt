pub mod PassesLemmas
pub mod ReplayLemmas
pub mod DoneLemmas
pub mod SoFarLemmas
pub mod WrittenLemmas
pub mod GivenLemmas
pub mod RepeatLemmas
mod PrintedLemmas
mod LogLemmas
pub mod RowLemmas
pub mod ActedLemmas
mod TurnLemmas
pub mod ListingLemmas
mod ExcerptLemmas
