pub mod Checkpoints
pub mod Documents
pub mod Texts
pub mod TokenRuns
pub mod Tokens
