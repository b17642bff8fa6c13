pub mod BeginningLemmas
pub mod DifferingLemmas
pub mod RunningLemmas
pub mod TouchingLemmas
