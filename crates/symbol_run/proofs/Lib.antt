pub mod RunLemmas
pub mod AlikeLemmas
pub mod AnswerLemmas
pub mod NamedLemmas
pub mod ServingLemmas
