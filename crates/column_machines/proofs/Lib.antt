pub mod ColumnLemmas
mod NotingLemmas
mod EvaluationLemmas
mod TakingLemmas
mod StepLemmas
mod MakingLemmas
pub mod FittingLemmas
pub mod EditLemmas
mod TurnLemmas
