pub mod HeldSoFar
pub mod Projects
pub mod Reading
pub mod Runs
pub mod SoundLaws
pub mod ToldLaws
pub mod VerdictReading
