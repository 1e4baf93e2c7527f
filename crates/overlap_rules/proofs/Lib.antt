mod BucketLemmas
mod CoverLemmas
mod IndexLemmas
pub mod Laws
mod NearLemmas
mod OrderLemmas
mod TouchLemmas
