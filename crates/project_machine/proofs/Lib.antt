mod EmptyLemmas
pub mod HistoryLemmas
pub mod KeptLemmas
pub mod LegalLemmas
pub mod NameLemmas
mod OneRowLemmas
pub mod OpenLemmas
pub mod OrderLemmas
mod OwnLemmas
mod PrivateLemmas
mod RequestLemmas
mod RosterLemmas
pub mod RowLemmas
mod ShownLemmas
pub mod SizeLemmas
pub mod SnapshotLemmas
mod StayLemmas
pub mod StepLemmas
pub mod VerdictLemmas
pub mod ViewLemmas
