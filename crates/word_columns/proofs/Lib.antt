pub mod ColumnLemmas
pub mod RunLemmas
