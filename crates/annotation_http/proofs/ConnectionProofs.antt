pub mod CountLemmas
pub mod FaultLemmas
pub mod HeadlineLemmas
pub mod HistoryLemmas
pub mod ParkLemmas
pub mod SessionLemmas
pub mod SpokenLemmas
pub mod TalkLemmas
