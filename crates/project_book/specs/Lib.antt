pub mod Keeping
pub mod Codes
pub mod Founding
pub mod Answering
pub mod Visits
pub mod Opening
pub mod Replaying
