mod Documents
pub mod Troubles
pub mod ProjectFilesProofs
