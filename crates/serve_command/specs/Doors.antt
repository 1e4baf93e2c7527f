pub mod MemoryDoors
pub mod Workers
