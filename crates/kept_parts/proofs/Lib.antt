pub mod PairLemmas
pub mod GroupParts
pub mod UseLemmas
pub mod PlaceLemmas
pub mod NumberLemmas
pub mod BoundLemmas
