mod ClimbLemmas
mod DepthLemmas
mod FaultLemmas
mod NameLemmas
