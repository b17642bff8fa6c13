pub mod SymbolLemmas
pub mod CompactLemmas
pub mod LetterLemmas
pub mod WordLemmas
pub mod ExpectLemmas
