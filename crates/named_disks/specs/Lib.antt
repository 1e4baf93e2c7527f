pub mod NamedDisks
pub mod NameLaws
pub mod DiskFaults
pub mod MemoryNames
pub mod MemoryCalls
