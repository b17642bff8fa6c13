pub mod ColumnLemmas
pub mod NotingLemmas
pub mod KeptLemmas
pub mod EvaluationLemmas
pub mod TakingLemmas
pub mod StepLemmas
pub mod FittingLemmas
