mod ItemLemmas
mod LetterLemmas
mod ShowingLemmas
mod StageLemmas
