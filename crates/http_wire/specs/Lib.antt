pub mod Answers
pub mod Fields
pub mod Heads
pub mod Inbox
pub mod Messages
pub mod NextMessage
