pub mod RunLemmas
pub mod RefusalLemmas
pub mod LetterLemmas
pub mod UniqueAnswers
