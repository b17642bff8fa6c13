pub mod GatherLemmas
pub mod ColumnStates
pub mod NotingLemmas
pub mod LastRunsLemmas
