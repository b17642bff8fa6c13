pub mod TruthLemmas
pub mod TableLemmas
pub mod MakingLemmas
