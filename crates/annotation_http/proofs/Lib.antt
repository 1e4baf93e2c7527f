pub mod AnswerLawsProofs
pub mod ExchangesProofs
pub mod ConnectionProofs
