pub mod JsonAnswers
pub mod Refusals
