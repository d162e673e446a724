pub mod LogLemmas
mod SettledLemmas
mod RefusedLemmas
mod OwnLemmas
pub mod SessionLemmas
pub mod DecodingLemmas
pub mod OutcomeLemmas
pub mod OrderFitLemmas
mod ProcedureLemmas
mod SerialLemmas
mod NothingLemmas
mod NameLemmas
pub mod GrowingLemmas
pub mod FinalLemmas
mod FreeLemmas
pub mod AskedLemmas
mod AgreementLemmas
pub mod SpelledLemmas
pub mod HeadFitLemmas
pub mod RisingLemmas
