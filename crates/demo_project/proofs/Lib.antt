pub mod JoinedLemmas
pub mod ReadLemmas
pub mod CountLemmas
pub mod SessionLemmas
pub mod SummaryLemmas
