pub mod ActTables
pub mod SpareLemmas
pub mod TablingLemmas
pub mod CountingLemmas
