mod LetterLemmas
mod HeardLemmas
mod NamedLemmas
pub mod MergingLemmas
mod StageLemmas
pub mod RailLemmas
pub mod ObeyingLemmas
