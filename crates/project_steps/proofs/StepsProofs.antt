pub mod ActLemmas
pub mod AgreementLemmas
pub mod JudgeLemmas
pub mod OutcomeLemmas
pub mod ShotLemmas
pub mod TextLemmas
pub mod VerdictActs
