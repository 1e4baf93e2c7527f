pub mod DoorsProofs
pub mod ServingProofs
