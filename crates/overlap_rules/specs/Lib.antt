pub mod Buckets
pub mod Overlaps
pub mod TouchingSpans
