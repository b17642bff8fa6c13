pub mod ListLemmas
pub mod AgendaLemmas
