pub mod ItemRows
pub mod ItemsTable
pub mod WorkedItems
pub mod FoundLines
pub mod Writing
