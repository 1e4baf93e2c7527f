pub mod Routes
pub mod Requests
pub mod AnswerBodies
pub mod Answers
pub mod Desk
