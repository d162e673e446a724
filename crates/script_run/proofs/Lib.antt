mod AnsweredLemmas
mod PrintedLemmas
mod TextLemmas
