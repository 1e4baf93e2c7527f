pub mod Matches
pub mod Standing
pub mod Tallies
pub mod Places
pub mod Shifting
pub mod Counted
pub mod WorkedLayers
pub mod ScoreTable
