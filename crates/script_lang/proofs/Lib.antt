pub mod CutLemmas
pub mod FormLemmas
mod GivenLemmas
pub mod ListLemmas
pub mod ReadingLemmas
pub mod VerbLemmas
