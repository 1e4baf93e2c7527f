pub mod DeskAnswers
pub mod Refusals
