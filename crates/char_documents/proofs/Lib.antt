mod CheckpointLemmas
mod ReferenceLemmas
mod SliceLemmas
mod TokenLemmas
