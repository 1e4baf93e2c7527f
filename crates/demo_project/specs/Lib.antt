pub mod Joined
pub mod Texts
pub mod Requests
pub mod Founding
pub mod Sessions
pub mod Reading
pub mod Summary
pub mod Demos
