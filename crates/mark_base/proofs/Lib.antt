mod FailListLemmas
pub mod FaultLemmas
pub mod IdLemmas
mod NameLemmas
pub mod NumberLemmas
mod StreamLemmas
