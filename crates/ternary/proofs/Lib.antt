pub mod TernLemmas
pub mod CountsLemmas
