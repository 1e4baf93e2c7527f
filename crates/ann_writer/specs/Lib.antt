pub mod AnnOf
pub mod RoleCounts
pub mod Words
pub mod Writable
