pub mod CategoryLemmas
