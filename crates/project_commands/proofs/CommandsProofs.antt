pub mod ReplyLemmas
pub mod EndingLemmas
pub mod TriedLemmas
