pub mod RunLemmas
pub mod RowLemmas
pub mod BeginLemmas
pub mod ConfLemmas
pub mod ApartLemmas
