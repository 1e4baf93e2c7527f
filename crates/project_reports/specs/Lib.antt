pub mod WorkedStates
pub mod WrittenRows
