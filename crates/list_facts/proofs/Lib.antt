pub mod ContainsLemmas
pub mod DistinctLemmas
pub mod TakingLemmas
pub mod PlaceLemmas
