pub mod PlaceLemmas
pub mod LoweringLemmas
pub mod LinearLemmas
