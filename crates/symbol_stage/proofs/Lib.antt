pub mod ColumnLemmas
pub mod ServingLemmas
pub mod MovedLemmas
pub mod StayingLemmas
pub mod FormulaLemmas
pub mod NameLemmas
pub mod TidyLemmas
