pub mod TwoLemmas
mod NumberLemmas
mod WordLemmas
