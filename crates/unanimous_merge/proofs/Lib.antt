pub mod EntryLemmas
pub mod ItemLemmas
pub mod ListLemmas
pub mod RowLemmas
pub mod SharedLemmas
pub mod StandingLemmas
