pub mod Steps
pub mod Session
pub mod Talk
pub mod OneHistory
pub mod Headline
