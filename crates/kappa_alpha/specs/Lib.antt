pub mod Columns
pub mod Standing
pub mod Figures
pub mod Steps
pub mod Pairs
pub mod Counted
pub mod Worked
