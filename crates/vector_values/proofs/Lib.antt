pub mod ValueLemmas
pub mod LawLemmas
