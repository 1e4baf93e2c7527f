pub mod RowLemmas
pub mod PeopleLemmas
