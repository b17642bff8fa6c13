pub mod PatternLemmas
pub mod RangeLemmas
pub mod WordLemmas
pub mod VectorLemmas
pub mod WithinLemmas
pub mod LawLemmas
mod RangeLawLemmas
