mod BitLemmas
mod CountLemmas
mod ItemLemmas
mod LayerLemmas
mod RowLemmas
mod SnapshotLemmas
mod WorkedLemmas
