pub mod FileLemmas
pub mod WorkerLemmas
pub mod EndLemmas
