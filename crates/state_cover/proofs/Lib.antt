pub mod CoverLemmas
pub mod LawLemmas
pub mod OnceLemmas
pub mod TextLemmas
