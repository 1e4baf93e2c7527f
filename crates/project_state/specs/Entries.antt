pub mod Writing
pub mod Asking
pub mod Reading
pub mod Founding
pub mod FoundingReading
