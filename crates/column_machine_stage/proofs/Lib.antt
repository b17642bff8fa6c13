pub mod ColumnLemmas
pub mod ServingLemmas
pub mod MovingLemmas
pub mod EditLemmas
