pub mod LowerLemmas
pub mod WholeLemmas
pub mod MeaningLemmas
pub mod FeedingLemmas
