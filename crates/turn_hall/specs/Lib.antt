pub mod Views
pub mod Counts
pub mod Rule
pub mod Steps
pub mod Turns
pub mod Passes
pub mod Codes
