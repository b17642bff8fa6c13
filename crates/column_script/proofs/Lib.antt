pub mod ColumnLemmas
pub mod SharedLemmas
pub mod ValueLemmas
