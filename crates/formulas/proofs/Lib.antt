pub mod ReadLemmas
pub mod WrittenLemmas
pub mod GrammarLemmas
