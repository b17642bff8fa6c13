pub mod LineLemmas
pub mod FormLemmas
pub mod AlikeLemmas
pub mod EndLemmas
pub mod TurnLemmas
pub mod RunLemmas
pub mod AnswerLemmas
pub mod UniqueColumnAnswers
