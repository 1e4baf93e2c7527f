pub mod Indexed
pub mod TypeFaults
pub mod TypeTrees
