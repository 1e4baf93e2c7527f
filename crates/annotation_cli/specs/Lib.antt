pub mod ColumnsIn
pub mod Help
pub mod Printing
pub mod Run
pub mod Verify
