pub mod Readings
pub mod Items
pub mod Unanimous
pub mod Rows
pub mod WorkedSnapshots
pub mod Merges
