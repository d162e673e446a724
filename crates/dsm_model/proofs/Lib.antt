pub mod Numbered
pub mod Cases
pub mod StepLemmas
pub mod AnswerLemmas
pub mod WorldLemmas
pub mod SoundLemmas
pub mod LeadLemmas
mod ReplyLemmas
mod SerialLemmas
mod ContentsLemmas
mod PartLemmas
mod TurnLemmas
mod RefusalLemmas
mod AgreeLemmas
mod ToldLemmas
