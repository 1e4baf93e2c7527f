pub mod WorkerLemmas
