pub mod FoundSteps
pub mod HeldRows
pub mod ItemLines
pub mod HeldLines
