pub mod GoingLemmas
pub mod JoiningLemmas
pub mod ReachingLemmas
