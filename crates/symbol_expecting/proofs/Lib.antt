pub mod MissingLemmas
pub mod LetterLemmas
pub mod FaultLemmas
pub mod ToldLemmas
pub mod ColumnLemmas
