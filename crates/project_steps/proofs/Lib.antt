pub mod StepsProofs
