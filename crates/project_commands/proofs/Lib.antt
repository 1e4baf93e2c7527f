mod CompactLemmas
mod ImportLemmas
mod WeakLemmas
mod AloneLemmas
mod KeeperLemmas
mod PostingLemmas
mod CuratorLemmas
mod ReadingLemmas
pub mod CommandsProofs
