mod StepLemmas
mod BookLemmas
mod NumberLemmas
mod AskLemmas
mod FoundingLemmas
pub mod VisitLemmas
mod RestoredLemmas
mod AcceptLemmas
mod ViewLemmas
mod EntryLemmas
mod ReplayLemmas
mod BegunLemmas
mod OpeningLemmas
mod FaultLemmas
mod PieceLemmas
pub mod StatePiecesProofs
