pub mod FigureLemmas
pub mod FitLemmas
pub mod ShownLemmas
