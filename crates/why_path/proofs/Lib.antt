pub mod FoundLemmas
pub mod SearchLemmas
pub mod ReasonLemmas
pub mod BlockingLemmas
pub mod LineLemmas
pub mod NearLemmas
pub mod GroupedLemmas
