pub mod DiskLemmas
pub mod NameLemmas
