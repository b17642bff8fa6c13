pub mod ItemLemmas
pub mod StandLemmas
pub mod LetterLemmas
pub mod GivingLemmas
pub mod PlainLemmas
