pub mod RoutesProofs
pub mod RequestsProofs
pub mod AnswerBodiesProofs
pub mod DeskProofs
