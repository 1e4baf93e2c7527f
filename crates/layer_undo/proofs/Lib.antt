pub mod DeskLemmas
pub mod LawLemmas
pub mod ReplayLemmas
mod TrailLemmas
mod KeptLemmas
