pub mod DrawsLemmas
pub mod LinesLemmas
pub mod FamiliesLemmas
