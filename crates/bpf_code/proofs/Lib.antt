pub mod RangeLemmas
