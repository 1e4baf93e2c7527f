pub mod Calls
pub mod Desks
pub mod Replays
pub mod Starts
pub mod Trails
