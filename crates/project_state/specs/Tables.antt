pub mod Tabling
pub mod Counting
