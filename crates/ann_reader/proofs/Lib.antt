pub mod AnnLemmas
pub mod AnswerLemmas
pub mod ClassLemmas
pub mod CleanLemmas
pub mod CountLemmas
pub mod CoverLemmas
pub mod FaultlessLemmas
mod FieldLemmas
pub mod FileLemmas
pub mod FormFacts
pub mod HeldLemmas
pub mod KeptLemmas
pub mod LetterLemmas
pub mod LineFaultLemmas
pub mod LineLemmas
pub mod MemberLemmas
pub mod NamedLemmas
pub mod PartLemmas
pub mod PassLemmas
mod PlainLemmas
pub mod ReferenceTexts
pub mod RoleLemmas
pub mod RoomLemmas
pub mod RuleLemmas
pub mod SaidLemmas
pub mod SameLayer
pub mod SmallLemmas
pub mod SmallestLemmas
pub mod StandLemmas
pub mod StepLemmas
pub mod TextCuts
pub mod TextLemmas
mod TypeLemmas
pub mod UniqueLemmas
pub mod WholeLayer
pub mod WordLemmas
