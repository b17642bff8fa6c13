pub mod AnalysedLemmas
pub mod StepLemmas
pub mod FaithfulLemmas
