mod TotalLemmas
mod PrefixLemmas
mod PlaceLemmas
mod GrowthLemmas
mod StepLemmas
mod PassLemmas
mod TurnLemmas
mod TellLemmas
