pub mod BitLemmas
pub mod CertifyLemmas
pub mod ProcedureLemmas
pub mod LogLemmas
pub mod RowLemmas
