pub mod Entries
pub mod EntryKinds
pub mod EntryReading
pub mod Fields
pub mod Reading
