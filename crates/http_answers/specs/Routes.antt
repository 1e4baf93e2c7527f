pub mod Routes
pub mod Segments
pub mod Found
